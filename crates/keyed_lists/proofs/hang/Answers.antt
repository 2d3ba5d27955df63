-- `hang` makes the place the last of its list: alone in it, or told as the next by the one that was the last.
use mathlib.Core.Path.{◌≡◌, refl}
use mathlib.Core.Logic.{◌≢◌}
use mathlib.Core.List.{List}
use Prim.Native.Nat.{ℕ, ◌+◌, ◌-◌, ◌*◌, ◌%◌, ◌^◌}
use native.Mathlib.Omega.{arith}
use lib.ListN.{set}
use Rattle.keyed_lists.specs.KeyedLists.{ends_of, word_of}
use Rattle.keyed_lists.specs.Steps.{Hung}
use Rattle.keyed_lists.proofs.hang.Goals as goal

hung_alone : (q : List ℕ) (list place : ℕ) → ends_of q list ≡ 0 → Hung q list place (set q list (place * 2 ^ 32 + place))
hung_alone q list place z = record { alone = λ _. refl; behind = λ n. absurd (n z) }

hung_behind : (q : List ℕ) (list place : ℕ) → ends_of q list ≢ 0 → Hung q list place (set (set q (65 + ends_of q list % 2 ^ 32) (word_of q (ends_of q list % 2 ^ 32) + place * 2 ^ 40)) list (ends_of q list - ends_of q list % 2 ^ 32 + place))
hung_behind q list place n = record { alone = λ z. absurd (n z); behind = λ _. refl }

pub returns-then-ends-eq0 : goal.returns-then-ends-eq0
returns-then-ends-eq0 c = rw c.put.ensures (hung_alone _ _ _ c.if-ends-eq0.true)

pub bounds-queue-at : goal.bounds-queue-at
bounds-queue-at c = c.requires.last_in c.if-ends-eq0.false

pub overflow_add-word : goal.overflow_add-word
overflow_add-word c = omega (arith, c.requires.last-free c.if-ends-eq0.false, c.requires.few)

pub put-requires-2 : goal.put-requires-2
put-requires-2 c = c.requires.last_in c.if-ends-eq0.false

pub overflow_add-ends : goal.overflow_add-ends
overflow_add-ends c = omega (arith, c.requires.few, c.slice_known-1.given c.args.list)

pub returns : goal.returns
returns c = rw (c.put-3.ensures, c.put-2.ensures) (hung_behind _ _ _ c.if-ends-eq0.false)
