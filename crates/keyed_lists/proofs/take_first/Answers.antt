-- `take_first` empties the first place of the list, which goes on at the next.
use mathlib.Core.Path.{◌≡◌, refl}
use mathlib.Core.Logic.{◌≢◌}
use mathlib.Core.List.{List}
use Prim.Native.Nat.{ℕ, ◌+◌, ◌*◌, ◌/◌, ◌%◌, ◌^◌}
use native.Mathlib.Omega.{arith}
use lib.ListN.{set}
use Rattle.keyed_lists.specs.KeyedLists.{ends_of, word_of}
use Rattle.keyed_lists.specs.Steps.{first_emptied, FirstGone}
use Rattle.keyed_lists.specs.LeaveWords.{first_in_reach, next_small}
use Rattle.keyed_lists.proofs.take_first.Goals as goal

module _ (q : List ℕ) (key : ℕ) where
  gone-none : word_of q (ends_of q (key % 64) / 2 ^ 32) / 2 ^ 40 ≡ 0 → FirstGone q key (word_of q (ends_of q (key % 64) / 2 ^ 32) % 2 ^ 16) (set (first_emptied q key) (key % 64) 0)
  gone-none z = record { cell-is = refl; none = λ _. refl; on = λ n. absurd (n z) }

  gone-on : word_of q (ends_of q (key % 64) / 2 ^ 32) / 2 ^ 40 ≢ 0 → FirstGone q key (word_of q (ends_of q (key % 64) / 2 ^ 32) % 2 ^ 16) (set (first_emptied q key) (key % 64) (word_of q (ends_of q (key % 64) / 2 ^ 32) / 2 ^ 40 * 2 ^ 32 + ends_of q (key % 64) % 2 ^ 32))
  gone-on n = record { cell-is = refl; none = λ z. absurd (n z); on = λ _. refl }

pub overflow_add-at : goal.overflow_add-at
overflow_add-at c = omega (arith, first_in_reach _ _ _ c.requires.keyed refl c.requires.key_nonzero)

pub offset_bounds-queue-at : goal.offset_bounds-queue-at
offset_bounds-queue-at c = omega (arith, first_in_reach _ _ _ c.requires.keyed refl c.requires.key_nonzero)

pub bounds-queue-at : goal.bounds-queue-at
bounds-queue-at c = first_in_reach _ _ _ c.requires.keyed refl c.requires.key_nonzero

pub put-requires-2 : goal.put-requires-2
put-requires-2 c = omega (arith, first_in_reach _ _ _ c.requires.keyed refl c.requires.key_nonzero)

pub returns-then-next-eq0 : goal.returns-then-next-eq0
returns-then-next-eq0 c = rw (c.put-then-next-eq0.ensures, c.put-2.ensures, c.put.ensures) (gone-none c.args.queue.now c.args.key c.if-next-eq0.true)

pub overflow_mul-next : goal.overflow_mul-next
overflow_mul-next c = omega (arith, next_small _ _ _ c.requires.keyed refl c.requires.key_nonzero)

pub overflow_add-next : goal.overflow_add-next
overflow_add-next c = omega (arith, next_small _ _ _ c.requires.keyed refl c.requires.key_nonzero)

pub returns : goal.returns
returns c = rw (c.put-3.ensures, c.put-2.ensures, c.put.ensures) (gone-on c.args.queue.now c.args.key c.if-next-eq0.false)
