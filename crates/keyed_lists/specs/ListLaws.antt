-- Small laws on places and lists that both a join and a leaving cite; and what the words of places and ends hold.
use Rattle.std.specs.Prelude.{◌≡◌, List, ℕ, ◌+◌, ◌*◌, ◌^◌, ◌<◌}
use Rattle.std.proofs.Common.{arith}
use Rattle.basics.specs.Tests.{ask_same}
use Rattle.keyed_lists.specs.KeyedLists.{ends_of, first_of, last_of, next_of, mark_of, cell_of, word_of, InList, Ended, Keyed}

pub mark-small : (q : List ℕ) (p : ℕ) → mark_of q p < 2 ^ 24
unfolding mark_of
mark-small q p = omega arith

-- the same place, by another name
pub in_place : {q : List ℕ} {j a b : ℕ} → a ≡ b → InList q j a → InList q j b
in_place {q} {j} e I = rw e at I

-- where a slice has the same ends, it has the same first and last
module _ (q q' : List ℕ) (j : ℕ) (e : ends_of q' j ≡ ends_of q j) where
  pub first-kept : first_of q' j ≡ first_of q j
  unfolding first_of
  first-kept = rw e

  pub last-kept : last_of q' j ≡ last_of q j
  unfolding last_of
  last-kept = rw e

-- where a place has the same word, it has the same entry and the same next place
module _ (q q' : List ℕ) (p : ℕ) (e : word_of q' p ≡ word_of q p) where
  pub mark-kept : mark_of q' p ≡ mark_of q p
  unfolding mark_of
  mark-kept = rw e

  pub cell-kept : cell_of q' p ≡ cell_of q p
  unfolding cell_of
  cell-kept = rw e

  pub next-kept : next_of q' p ≡ next_of q p
  unfolding next_of
  next-kept = rw e

-- the ends of a list
module _ (q' : List ℕ) (j first last : ℕ) (h : last < 2 ^ 32) (e : ends_of q' j ≡ first * 2 ^ 32 + last) where
  pub ends-first : first_of q' j ≡ first
  unfolding first_of
  ends-first = rw e (omega arith)

  pub ends_last : last_of q' j ≡ last
  unfolding last_of
  ends_last = rw e (omega arith)

-- the last place of a list has no next one
pub last_has_none : (q : List ℕ) (j : ℕ) → Keyed q → Ended q j → next_of q (last_of q j) ≡ 0
last_has_none q j K E =
    ask_same (next_of q (last_of q j)) 0 (λ z. z)
    (λ n. let N = K.linked (last_of q j) E.last_in.waits n in
    absurd (omega (arith, N.later, E.greatest (next_of q (last_of q j)) (rw E.last_in.list at N.in_list))))
