-- `stair_conflict` meets its contract: what the stairs from here on give is what all of them give.
use mathlib.Core.Path.{◌≡◌, refl, sym, ◌∙◌}
use Prim.Native.Nat.{◌≤◌, ◌-◌}
use native.Mathlib.Omega.{arith}
use lib.ListN.{length}
use borrow.Author.Rules.{rules}
use Rattle.geometry.specs.Geometry.{stair_conflict}
use Rattle.geometry.specs.Along.{conducts_by}
use Rattle.geometry.specs.StairLaws.{stairs_from, stair_at, stairs-next, stairs-found, stairs-end}
use Rattle.geometry.proofs.stair_conflict.Goals as goal
use Rattle.geometry.proofs.stair_conflict.Goals.{After-stair_at-found}
use Rattle.std.specs.Prelude.{◌≡◌, ℕ, ◌+◌, ◌-◌, ◌≤◌, ◌<◌, List, length, Bool, true, false, Option, Some, None, is_some}
use Rattle.basics.specs.Tests.{never}
use Rattle.room.specs.declared.Room.{Room}

-- the cell before is the one at a place whose next is here
back : {i : ℕ} → 1 ≤ i → i - 1 + 1 ≡ i
back h = omega arith

-- what the stair to here gives
stair_told : (c : After-stair_at-found) → c.stair_at-found.result ≡ stair_at c.args.room c.args.kinds.now (conducts_by c.args.bytes.now) c.args.path.now (c.loop-i.i - 1)
stair_told c = rw (back c.loop-i.auto.i) (rw (c.as_index.ensures.0, c.as_index-in-loop-i.ensures.0) at c.stair_at-found.ensures)

-- whether it gives a conflict
stair-some : (R : Room) (kinds : List ℕ) (conducts : ℕ → Bool) (path : List ℕ) (i : ℕ) → i + 1 < length path → (o : Option ℕ) → o ≡ stair_at R kinds conducts path i → is_some o ≡ true
    → o ≡ stairs_from R kinds conducts path i
stair-some R kinds conducts path i h (Some v) e t = e ∙ stairs-found R kinds conducts path i h v (sym e)
stair-some R kinds conducts path i h None e t = never (cc)

stair-none : (R : Room) (kinds : List ℕ) (conducts : ℕ → Bool) (path : List ℕ) (i : ℕ) → i + 1 < length path → (o : Option ℕ) → o ≡ stair_at R kinds conducts path i → is_some o ≡ false
    → stairs_from R kinds conducts path (i + 1) ≡ stairs_from R kinds conducts path i
stair-none R kinds conducts path i h (Some v) e f = never (cc)
stair-none R kinds conducts path i h None e f = stairs-next R kinds conducts path i h (sym e)

pub returns-then-is_some : goal.returns-then-is_some
returns-then-is_some c =
    let one = c.loop-i.auto.i in
    stair-some _ _ _ _ (c.loop-i.i - 1) (omega (arith, c.loop-i-test.true)) _ (stair_told (goal.at.returns-then-is_some c).After-stair_at-found) (sym c.is_some.ensures ∙ c.if-is_some.true) ∙ c.loop-i.invariant (c.loop-i.i - 1) (back one)

pub loop-i-preserved : goal.loop-i-preserved
loop-i-preserved c =
    let one = c.loop-i.auto.i in
    let next = stair-none _ _ _ _ (c.loop-i.i - 1) (omega (arith, c.loop-i-test.true)) _ (stair_told (goal.at.loop-i-preserved c).After-stair_at-found) (sym c.is_some.ensures ∙ c.if-is_some.false) in
    λ k e. let q : k ≡ c.loop-i.i - 1 + 1 = omega arith in rw q (next ∙ c.loop-i.invariant (c.loop-i.i - 1) (back one))

pub returns : goal.returns
returns c =
    let one = c.loop-i.auto.i in
    stairs-end _ _ _ _ (c.loop-i.i - 1) (omega (arith, c.loop-i-test.false)) ∙ c.loop-i.invariant (c.loop-i.i - 1) (back one)
