-- Empty lists are lists by key; and the least key that waits is found by going up.
use Rattle.std.specs.Prelude.{◌≡◌, ◌≢◌, List, [], ℕ, ◌+◌, ◌%◌, ◌^◌, ◌≤◌, ◌<◌, length, set}
use Rattle.std.proofs.Math.Path.{refl, ap}
use Rattle.std.proofs.Common.{◌∙◌, arith, length-set, get_or-set_same, get_or-set_other}
use Rattle.basics.specs.Tests.{ask_same}
use Rattle.keyed_lists.specs.KeyedLists.{used_of, floor_of, ends_of, key_of, entries_up_to, keyed_entries, Waits, Keyed, Begun, KeyedJoined}
use Rattle.keyed_lists.specs.Steps.{EndsCleared, Open, LeastKey}
use Rattle.keyed_lists.specs.ListLaws.{mark-small}
use Rattle.keyed_lists.specs.EntryLaws.{entries_none, some-placed}

-- no place is used, and keys may come from this one on
abbrev pub unused : List ℕ → ℕ → List ℕ
unused q key = set (set q 64 key) 65 0

module _ (q : List ℕ) (key : ℕ) (long : 66 < length q) (C : EndsCleared q) where
  unused-used : used_of (unused q key) ≡ 0
  unused-used = get_or-set_same (set q 64 key) 65 0 0 (simp length-set (omega arith))

  unused-floor : floor_of (unused q key) ≡ key
  unused-floor = get_or-set_other (set q 64 key) 65 64 0 0 (omega arith) ∙ get_or-set_same q 64 key 0 (omega arith)

  unused-ends : (j : ℕ) → j < 64 → ends_of (unused q key) j ≡ 0
  unused-ends j h = get_or-set_other (set q 64 key) 65 j 0 0 (omega arith) ∙ get_or-set_other q 64 j key 0 (omega arith) ∙ C.none j h

  unused-long : length (unused q key) ≡ length q
  unused-long = simp length-set

  none-waits : (p : ℕ) → Waits (unused q key) p → ⊥
  none-waits p W = omega (arith, W.counted, W.used, unused-used)

  pub unused-keyed : Keyed (unused q key)
  unused-keyed = record {
    long = omega (arith, unused-used, unused-long);
    few = omega (arith, unused-used);
    low = λ p W. absurd (none-waits p W);
    high = λ p W. absurd (none-waits p W);
    empty = λ j h z p I. none-waits p I.waits;
    ended = λ j h n. absurd (n (unused-ends j h));
    last = λ p W. absurd (none-waits p W);
    linked = λ p W. absurd (none-waits p W);
  }

  pub unused_open : Open (unused q key) key 0
  unused_open = record {
    next = unused-used;
    long = omega (arith, unused-long);
    low = omega (arith, unused-floor);
    high = omega (arith, unused-floor);
  }

  unused-entries : keyed_entries (unused q key) ≡ []
  unfolding keyed_entries
  unused-entries = ap (entries_up_to (unused q key)) unused-used ∙ entries_none (unused q key)

  pub unused_begun : (cell : ℕ) (q' : List ℕ) → KeyedJoined (unused q key) key 0 cell q' → Begun key cell q'
  unused_begun cell q' J = record { entries = rw unused-entries at J.entries; keyed = J.keyed }

-- no entry of a lesser key waits
pub record Reached (q : List ℕ) (key : ℕ) : Type 0 where
  pub from : floor_of q ≤ key
  pub low : (p : ℕ) → Waits q p → key ≤ key_of q p

module _ (q : List ℕ) (K : Keyed q) where
  pub floor-reached : Reached q (floor_of q)
  floor-reached = record { from = omega arith; low = λ p W. K.low p W }

  -- a key whose list is empty is passed over
  pub passed_over : (key : ℕ) → Reached q key → ends_of q (key % 64) ≡ 0 → Reached q (key + 1)
  passed_over key R z = record {
    from = omega (arith, R.from);
    low = λ p W. ask_same key (key_of q p)
        (λ e. absurd (K.empty (key % 64) (omega arith) z p (record { waits = W; list = omega arith })))
        (λ d. omega (arith, d, R.low p W));
  }

  -- there is an entry to be reached
  pub reached-small : (key : ℕ) → 0 < length (keyed_entries q) → Reached q key → key < 2 ^ 24
  unfolding keyed_entries
  reached-small key h R =
      let P = (some-placed q (used_of q) (entries_up_to q (used_of q)) refl h).placed in
      omega (arith, R.low P.place (record { counted = P.counted; used = P.used; marked = P.marked }), mark-small q P.place)

  pub reached-least : (key : ℕ) → Reached q key → ends_of q (key % 64) ≢ 0 → LeastKey q key
  reached-least key R n = record { from = R.from; low = R.low; some = n }
