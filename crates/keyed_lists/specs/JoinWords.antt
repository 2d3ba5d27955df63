-- What the words written for a join are to the places and lists.
use Rattle.std.specs.Prelude.{◌≡◌, ◌≢◌, List, ℕ, ◌+◌, ◌-◌, ◌*◌, ◌/◌, ◌%◌, ◌^◌, ◌≤◌, ◌<◌, length, get_or, set}
use Rattle.std.proofs.Common.{sym, ap, ◌∙◌}
use native.Mathlib.Omega.{arith}
use Rattle.std.proofs.Math.ListN.{length-set}
use Rattle.std.proofs.Math.Seq.{get_or-set_same, get_or-set_other}
use Rattle.basics.specs.Tests.{ask_same}
use Rattle.keyed_lists.specs.KeyedLists.{used_of, ends_of, word_of, first_of, last_of, next_of, mark_of, cell_of, Ended, Keyed, KeyedJoined}
use Rattle.keyed_lists.specs.Steps.{Open, Hangable, Hung}
use Rattle.keyed_lists.specs.ListLaws.{mark-kept, cell-kept, next-kept, ends-first, ends_last, last_has_none}
use Rattle.keyed_lists.specs.JoinLaws.{Added, Fitting, added-joined}

-- the word of an entry that is the last of its list
abbrev pub new_word : ℕ → ℕ → ℕ
new_word key cell = (key + 1) * 2 ^ 16 + cell

-- its place is used, and is in no list yet
abbrev pub placed : List ℕ → ℕ → ℕ → ℕ → List ℕ
placed q key s cell = set (set q (66 + s) (new_word key cell)) 65 (s + 1)

module _ (q : List ℕ) (key s cell : ℕ) (long : 66 + s < length q) where
  placed_length : length (placed q key s cell) ≡ length q
  placed_length = simp length-set

  placed-word : (p : ℕ) → 1 ≤ p → p ≢ s + 1 → word_of (placed q key s cell) p ≡ word_of q p
  placed-word p a d =
      get_or-set_other (set q (66 + s) (new_word key cell)) 65 (65 + p) (s + 1) 0 (omega arith) ∙ get_or-set_other q (66 + s) (65 + p) (new_word key cell) 0 (omega (arith, d))

  placed-new : word_of (placed q key s cell) (s + 1) ≡ new_word key cell
  placed-new =
      let e : 65 + (s + 1) ≡ 66 + s = omega arith in
      ap (λ (k : ℕ). get_or (placed q key s cell) k 0) e ∙ get_or-set_other (set q (66 + s) (new_word key cell)) 65 (66 + s) (s + 1) 0 (omega arith) ∙ get_or-set_same q (66 + s) (new_word key cell) 0 long

  placed-used : used_of (placed q key s cell) ≡ s + 1
  placed-used = get_or-set_same (set q (66 + s) (new_word key cell)) 65 (s + 1) 0 (simp length-set (omega arith))

  placed_below : (i : ℕ) → i < 65 → get_or (placed q key s cell) i 0 ≡ get_or q i 0
  placed_below i h =
      get_or-set_other (set q (66 + s) (new_word key cell)) 65 i (s + 1) 0 (omega arith) ∙ get_or-set_other q (66 + s) i (new_word key cell) 0 (omega arith)

-- a new place's own word
module _ (q' : List ℕ) (key cell p : ℕ) (a : key + 1 < 2 ^ 24) (b : cell < 2 ^ 16) (e : word_of q' p ≡ new_word key cell) where
  new-mark : mark_of q' p ≡ key + 1
  unfolding mark_of
  new-mark = rw e (omega arith)

  new-cell : cell_of q' p ≡ cell
  unfolding cell_of
  new-cell = rw e (omega arith)

  new-next : next_of q' p ≡ 0
  unfolding next_of
  new-next = rw e (omega arith)

-- the word of the place before it, which gets a next one
module _ (q q' : List ℕ) (p place : ℕ) (z : next_of q p ≡ 0) (e : word_of q' p ≡ word_of q p + place * 2 ^ 40) where
  hung_mark : mark_of q' p ≡ mark_of q p
  unfolding mark_of
  hung_mark = rw e (omega arith)

  hung_cell : cell_of q' p ≡ cell_of q p
  unfolding cell_of
  hung_cell = rw e (omega arith)

  hung_next : next_of q' p ≡ place
  unfolding next_of
  hung_next = rw e (omega (arith, z))

module _ (q : List ℕ) (key s cell j : ℕ) (K : Keyed q) (O : Open q key s) (own : key % 64 ≡ j) (a : key + 1 < 2 ^ 24) (f : s + 1 < 2 ^ 24) (b : cell < 2 ^ 16) where
  j_small : j < 64
  j_small = omega (arith, own)

  -- the place begins its list
  lone_ends : ℕ
  lone_ends = (s + 1) * 2 ^ 32 + (s + 1)

  alone : List ℕ
  alone = set (placed q key s cell) j lone_ends

  alone-word : (p : ℕ) → word_of alone p ≡ word_of (placed q key s cell) p
  unfolding alone
  alone-word p = get_or-set_other (placed q key s cell) j (65 + p) lone_ends 0 (omega (arith, j_small))

  alone-old : (p : ℕ) → 1 ≤ p → p < s + 1 → word_of alone p ≡ word_of q p
  alone-old p c d = alone-word p ∙ placed-word q key s cell O.long p c (omega arith)

  alone-ends : ends_of alone j ≡ (s + 1) * 2 ^ 32 + (s + 1)
  unfolding alone lone_ends
  alone-ends = get_or-set_same (placed q key s cell) j lone_ends 0 (omega (arith, placed_length q key s cell O.long, O.long, j_small))

  alone-other : (i : ℕ) → i < 66 → i ≢ j → get_or alone i 0 ≡ get_or (placed q key s cell) i 0
  unfolding alone
  alone-other i h d = get_or-set_other (placed q key s cell) j i lone_ends 0 d

  alone-added : ends_of q j ≡ 0 → Added q key cell (s + 1) j alone
  alone-added z =
      let new = alone-word (s + 1) ∙ placed-new q key s cell O.long in
      record {
        list = own;
        used = alone-other 65 (omega arith) (omega (arith, j_small)) ∙ placed-used q key s cell O.long;
        floor = alone-other 64 (omega arith) (omega (arith, j_small)) ∙ placed_below q key s cell O.long 64 (omega arith);
        mark-new = new-mark alone key cell (s + 1) a b new;
        cell-new = new-cell alone key cell (s + 1) a b new;
        next-new = new-next alone key cell (s + 1) a b new;
        mark-old = λ p c d. mark-kept q alone p (alone-old p c d);
        cell-old = λ p c d. cell-kept q alone p (alone-old p c d);
        next-old = λ p c d g. next-kept q alone p (alone-old p c d);
        next_last = λ n. absurd (n z);
        ends-other = λ i h d. alone-other i (omega arith) d ∙ placed_below q key s cell O.long i (omega arith);
        ends-own = λ e. omega (arith, alone-ends, e);
        last-own = ends_last alone j (s + 1) (s + 1) (omega arith) alone-ends;
        first_alone = λ _. ends-first alone j (s + 1) (s + 1) (omega arith) alone-ends;
        first-behind = λ n. absurd (n z);
      }

  -- the place is hung behind the last of its list
  module _ (n : ends_of q j ≢ 0) where
    list-ended : Ended q j
    list-ended = K.ended j j_small n

    last-small : last_of q j < s + 1
    last-small = omega (arith, list-ended.last_in.waits.used, O.next)

    linked_word : ℕ
    linked_word = word_of q (last_of q j) + (s + 1) * 2 ^ 40

    linked : List ℕ
    linked = set (placed q key s cell) (65 + last_of q j) linked_word

    new_ends : ℕ
    new_ends = first_of q j * 2 ^ 32 + (s + 1)

    behind : List ℕ
    behind = set linked j new_ends

    linked_length : length linked ≡ length q
    unfolding linked
    linked_length = length-set (placed q key s cell) (65 + last_of q j) linked_word ∙ placed_length q key s cell O.long

    linked-other : (k : ℕ) → k ≢ 65 + last_of q j → get_or linked k 0 ≡ get_or (placed q key s cell) k 0
    unfolding linked
    linked-other k d = get_or-set_other (placed q key s cell) (65 + last_of q j) k linked_word 0 d

    behind-other : (k : ℕ) → k ≢ j → get_or behind k 0 ≡ get_or linked k 0
    unfolding behind
    behind-other k d = get_or-set_other linked j k new_ends 0 d

    behind-below : (i : ℕ) → i < 65 → i ≢ j → get_or behind i 0 ≡ get_or q i 0
    behind-below i h d = behind-other i d ∙ linked-other i (omega arith) ∙ placed_below q key s cell O.long i h

    behind-word : (p : ℕ) → p ≢ last_of q j → word_of behind p ≡ word_of (placed q key s cell) p
    behind-word p d = behind-other (65 + p) (omega (arith, j_small)) ∙ linked-other (65 + p) (omega (arith, d))

    behind-old : (p : ℕ) → 1 ≤ p → p < s + 1 → p ≢ last_of q j → word_of behind p ≡ word_of q p
    behind-old p c d e = behind-word p e ∙ placed-word q key s cell O.long p c (omega arith)

    behind-last : word_of behind (last_of q j) ≡ word_of q (last_of q j) + (s + 1) * 2 ^ 40
    unfolding linked linked_word
    behind-last =
        behind-other (65 + last_of q j) (omega (arith, j_small)) ∙ get_or-set_same (placed q key s cell) (65 + last_of q j) linked_word 0 (omega (arith, placed_length q key s cell O.long, O.long, last-small))

    behind-ends : ends_of behind j ≡ first_of q j * 2 ^ 32 + (s + 1)
    unfolding behind new_ends
    behind-ends = get_or-set_same linked j new_ends 0 (omega (arith, linked_length, O.long, j_small))

    behind-added : Added q key cell (s + 1) j behind
    behind-added =
        let new = behind-word (s + 1) (omega (arith, last-small)) ∙ placed-new q key s cell O.long in
        let z = last_has_none q j K list-ended in
        record {
          list = own;
          used = behind-other 65 (omega (arith, j_small)) ∙ linked-other 65 (omega (arith, list-ended.last_in.waits.counted)) ∙ placed-used q key s cell O.long;
          floor = behind-below 64 (omega arith) (omega (arith, j_small));
          mark-new = new-mark behind key cell (s + 1) a b new;
          cell-new = new-cell behind key cell (s + 1) a b new;
          next-new = new-next behind key cell (s + 1) a b new;
          mark-old = λ p c d. ask_same p (last_of q j) (λ e. rw e (hung_mark q behind (last_of q j) (s + 1) z behind-last)) (λ e. mark-kept q behind p (behind-old p c d e));
          cell-old = λ p c d. ask_same p (last_of q j) (λ e. rw e (hung_cell q behind (last_of q j) (s + 1) z behind-last)) (λ e. cell-kept q behind p (behind-old p c d e));
          next-old = λ p c d g. next-kept q behind p (behind-old p c d (g n));
          next_last = λ _. hung_next q behind (last_of q j) (s + 1) z behind-last;
          ends-other = λ i h d. behind-below i (omega arith) d;
          ends-own = λ e. omega (arith, behind-ends, e);
          last-own = ends_last behind j (first_of q j) (s + 1) (omega arith) behind-ends;
          first_alone = λ e. absurd (n e);
          first-behind = λ _. ends-first behind j (first_of q j) (s + 1) (omega arith) behind-ends;
        }

    -- the words that the code writes are these
    behind-is : (q' : List ℕ) → Hung (placed q key s cell) j (s + 1) q' → q' ≡ behind
    unfolding behind linked linked_word new_ends last_of first_of
    behind-is q' H =
        let e = placed_below q key s cell O.long j (omega (arith, j_small)) in
        let w : word_of (placed q key s cell) (ends_of q j % 2 ^ 32) ≡ word_of q (ends_of q j % 2 ^ 32) = placed-word q key s cell O.long (ends_of q j % 2 ^ 32) list-ended.last_in.waits.counted (omega (arith, last-small)) in
        let m : ends_of q j - ends_of q j % 2 ^ 32 + (s + 1) ≡ ends_of q j / 2 ^ 32 * 2 ^ 32 + (s + 1) = omega arith in
        rw (e, w, m) at (H.behind (λ z. n (sym e ∙ z)))

  alone-is : (q' : List ℕ) → ends_of q j ≡ 0 → Hung (placed q key s cell) j (s + 1) q' → q' ≡ alone
  unfolding alone lone_ends
  alone-is q' z H = H.alone (placed_below q key s cell O.long j (omega (arith, j_small)) ∙ z)

  hung_added : (q' : List ℕ) → Hung (placed q key s cell) j (s + 1) q' → Added q key cell (s + 1) j q'
  hung_added q' H =
      ask_same (ends_of q j) 0
      (λ z. rw (alone-is q' z H) (alone-added z))
      (λ n. rw (behind-is n q' H) (behind-added n))

  pub hangable : Hangable (placed q key s cell) j (s + 1)
  unfolding last_of next_of
  hangable =
      let e = placed_below q key s cell O.long j (omega (arith, j_small)) in
      record {
        list_in = j_small;
        long = omega (arith, placed_length q key s cell O.long, O.long);
        few = f;
        last_in = rw e (λ n. omega (arith, last-small n, placed_length q key s cell O.long, O.long));
        last-free = rw e (λ n. omega (
          arith,
          placed-word q key s cell O.long (ends_of q j % 2 ^ 32) (list-ended n).last_in.waits.counted (omega (arith, last-small n)),
          last_has_none q j K (list-ended n),
        ));
      }

  pub hung_joined : (q' : List ℕ) → length q' ≡ length q → Hung (placed q key s cell) j (s + 1) q' → KeyedJoined q key s cell q'
  hung_joined q' l H =
      let F : Fitting q key (s + 1) q' = record { next = omega (arith, O.next); low = O.low; high = O.high; long = omega (arith, O.long); few = f } in
      rw O.next at (added-joined q key cell (s + 1) j q' K (hung_added q' H) F)
