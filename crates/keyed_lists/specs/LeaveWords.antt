-- What the words written for a leaving are to the places and lists.
use Rattle.std.specs.Prelude.{◌≡◌, refl, ◌≢◌, List, ℕ, ◌+◌, ◌*◌, ◌/◌, ◌%◌, ◌^◌, ◌≤◌, ◌<◌, length, get_or, set}
use Rattle.std.proofs.Math.Path.{sym}
use Rattle.std.proofs.Common.{◌∙◌, arith}
use Rattle.std.proofs.Math.ListN.{length-set}
use Rattle.std.proofs.Math.Seq.{get_or-set_same, get_or-set_other}
use Rattle.basics.specs.Tests.{ask_same}
use Rattle.keyed_lists.specs.KeyedLists.{floor_of, ends_of, word_of, first_of, last_of, next_of, mark_of, cell_of, Ended, Keyed, KeyedLeft}
use Rattle.keyed_lists.specs.Steps.{LeastKey, FirstGone}
use Rattle.keyed_lists.specs.ListLaws.{mark-kept, cell-kept, next-kept, ends-first, ends_last}
use Rattle.keyed_lists.specs.LeaveLaws.{Removed, removed_left}

module _ (q : List ℕ) (key j : ℕ) (K : Keyed q) (own : key % 64 ≡ j) (some : ends_of q j ≢ 0) where
  j_small : j < 64
  j_small = omega (arith, own)

  list-ended : Ended q j
  list-ended = K.ended j j_small some

  -- the first place of the list can be read, and so can what it tells
  pub first_in_reach : 65 + ends_of q j / 2 ^ 32 < length q
  unfolding first_of
  first_in_reach = omega (arith, list-ended.first_in.waits.used, K.long)

  first_counted : 1 ≤ first_of q j
  first_counted = list-ended.first_in.waits.counted

  next-few : next_of q (first_of q j) < 2 ^ 24
  next-few =
      ask_same (next_of q (first_of q j)) 0
      (λ z. omega arith)
      (λ n. omega (arith, (K.linked (first_of q j) list-ended.first_in.waits n).in_list.waits.used, K.few))

  pub next_small : word_of q (ends_of q j / 2 ^ 32) / 2 ^ 40 < 2 ^ 24
  unfolding first_of next_of
  next_small = next-few

  raised : List ℕ
  raised = set q 64 key

  emptied : List ℕ
  emptied = set raised (65 + first_of q j) 0

  raised_length : length raised ≡ length q
  unfolding raised
  raised_length = length-set q 64 key

  emptied_length : length emptied ≡ length q
  unfolding emptied
  emptied_length = length-set raised (65 + first_of q j) 0 ∙ raised_length

  emptied-other : (k : ℕ) → k ≢ 64 → k ≢ 65 + first_of q j → get_or emptied k 0 ≡ get_or q k 0
  unfolding emptied raised
  emptied-other k a b = get_or-set_other raised (65 + first_of q j) k 0 0 b ∙ get_or-set_other q 64 k key 0 a

  emptied-floor : floor_of emptied ≡ key
  unfolding emptied raised
  emptied-floor = get_or-set_other raised (65 + first_of q j) 64 0 0 (omega arith) ∙ get_or-set_same q 64 key 0 (omega (arith, K.long))

  emptied-gone : word_of emptied (first_of q j) ≡ 0
  unfolding emptied
  emptied-gone = get_or-set_same raised (65 + first_of q j) 0 0 (omega (arith, raised_length, K.long, list-ended.first_in.waits.used))

  -- whatever the ends of the list become
  module _ (ends : ℕ) where
    gone : List ℕ
    gone = set emptied j ends

    gone_length : length gone ≡ length q
    unfolding gone
    gone_length = length-set emptied j ends ∙ emptied_length

    gone-other : (k : ℕ) → k ≢ j → get_or gone k 0 ≡ get_or emptied k 0
    unfolding gone
    gone-other k d = get_or-set_other emptied j k ends 0 d

    gone-word : (p : ℕ) → 1 ≤ p → p ≢ first_of q j → word_of gone p ≡ word_of q p
    gone-word p a d = gone-other (65 + p) (omega (arith, j_small)) ∙ emptied-other (65 + p) (omega arith) (omega (arith, d))

    gone-first : word_of gone (first_of q j) ≡ 0
    gone-first = gone-other (65 + first_of q j) (omega (arith, j_small)) ∙ emptied-gone

    gone-mark : mark_of gone (first_of q j) ≡ 0
    unfolding mark_of
    gone-mark = rw gone-first

    gone-ends : ends_of gone j ≡ ends
    unfolding gone
    gone-ends = get_or-set_same emptied j ends 0 (omega (arith, emptied_length, K.long, j_small))

    gone_removed :
        (next_of q (first_of q j) ≡ 0 → ends ≡ 0) →
        (next_of q (first_of q j) ≢ 0 → ends ≡ next_of q (first_of q j) * 2 ^ 32 + last_of q j) →
        Removed q key j gone
    gone_removed none on =
        let small : last_of q j < 2 ^ 32 = omega (arith, list-ended.last_in.waits.used, K.few) in
        record {
          long = gone_length;
          used = gone-other 65 (omega (arith, j_small)) ∙ emptied-other 65 (omega arith) (omega (arith, first_counted));
          floor = gone-other 64 (omega (arith, j_small)) ∙ emptied-floor;
          mark-gone = gone-mark;
          mark-other = λ p a d. mark-kept q gone p (gone-word p a d);
          cell_other = λ p a d. cell-kept q gone p (gone-word p a d);
          next-other = λ p a d. next-kept q gone p (gone-word p a d);
          ends-other = λ i h d. gone-other i d ∙ emptied-other i (omega arith) (omega arith);
          ends-none = λ z. gone-ends ∙ none z;
          ends_on = λ n e. n (omega (arith, gone-ends, on n, e));
          first_on = λ n. ends-first gone j (next_of q (first_of q j)) (last_of q j) small (gone-ends ∙ on n);
          last_on = λ n. ends_last gone j (next_of q (first_of q j)) (last_of q j) small (gone-ends ∙ on n);
        }

  none_removed : next_of q (first_of q j) ≡ 0 → Removed q key j (gone 0)
  none_removed z = gone_removed 0 (λ _. refl) (λ n. absurd (n z))

  on_removed : next_of q (first_of q j) ≢ 0 → Removed q key j (gone (next_of q (first_of q j) * 2 ^ 32 + last_of q j))
  on_removed n = gone_removed (next_of q (first_of q j) * 2 ^ 32 + last_of q j) (λ z. absurd (n z)) (λ _. refl)

  none_is : (cell : ℕ) (q' : List ℕ) → FirstGone q key cell q' → next_of q (first_of q j) ≡ 0 → q' ≡ gone 0
  unfolding gone emptied raised first_of next_of
  none_is cell q' G z = (rw own at G.none) z

  on-is : (cell : ℕ) (q' : List ℕ) → FirstGone q key cell q' → next_of q (first_of q j) ≢ 0 → q' ≡ gone (next_of q (first_of q j) * 2 ^ 32 + last_of q j)
  unfolding gone emptied raised first_of last_of next_of
  on-is cell q' G n = (rw own at G.on) n

  first_gone_removed : (cell : ℕ) (q' : List ℕ) → FirstGone q key cell q' → Removed q key j q'
  first_gone_removed cell q' G =
      ask_same (next_of q (first_of q j)) 0
      (λ z. rw (none_is cell q' G z) (none_removed z))
      (λ n. rw (on-is cell q' G n) (on_removed n))

  cell-is : (cell : ℕ) (q' : List ℕ) → FirstGone q key cell q' → cell_of q (first_of q j) ≡ cell
  unfolding cell_of first_of
  cell-is cell q' G = sym (rw own at G.cell-is)

  pub first-gone-left : LeastKey q key → (cell : ℕ) (q' : List ℕ) → FirstGone q key cell q' → KeyedLeft q cell q'
  first-gone-left L cell q' G = rw (cell-is cell q' G) at (removed_left q key j q' K own L (first_gone_removed cell q' G))
