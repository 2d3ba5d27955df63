-- `stair_at` meets its contract: its tests are the definition's.
use Rattle.std.specs.Prelude.{Some}
use mathlib.Core.Path.{◌≡◌, sym, ◌∙◌}
use Prim.Native.Nat.{ℕ, ◌<◌}
use borrow.Author.Tests.{eq-eqb, ne_eqb}
use borrow.Author.Rules.{rules}
use Rattle.room.specs.Units.{air}
use Rattle.room.specs.Room.{volume}
use Rattle.room.specs.RoomLaws.{above_in}
use Rattle.routing_resources.specs.ResourceLaws.{clearance_in}
use Rattle.geometry.specs.Geometry.{at_clearance}
use Rattle.geometry.proofs.stair_at.Goals as goal
use Rattle.geometry.proofs.stair_at.Goals.{After-clearance}

-- a cell at the clearance is one of the room
free_in : (c : After-clearance) → (v : ℕ) → c.clearance.result ≡ Some v → v < volume c.args.room
free_in c v e = clearance_in _ c.requires.good _ _ c.requires.from_bound.0 c.requires.from_bound.1 v (sym c.clearance.ensures ∙ e)

pub returns-in_err-free : goal.returns-in_err-free
unfolding at_clearance
returns-in_err-free c = c.from_residual.ensures ∙ rw (sym c.clearance.ensures ∙ c.in_err-free.was)

pub bounds-kinds-free : goal.bounds-kinds-free
bounds-kinds-free c = rw c.requires.kinds_len.0 (free_in (goal.at.bounds-kinds-free c).After-clearance _ c.in_ok-free.was)

pub returns-then-kinds-free-ne-AIR : goal.returns-then-kinds-free-ne-AIR
unfolding at_clearance
returns-then-kinds-free-ne-AIR c = rw (sym c.clearance.ensures ∙ c.in_ok-free.was, ne_eqb _ air c.if-kinds-free-ne-AIR.true)

pub above-requires-clause-cell_bound : goal.above-requires-clause-cell_bound
above-requires-clause-cell_bound c = free_in (goal.at.above-requires-clause-cell_bound c).After-clearance _ c.in_ok-free.was

pub conductor_at-requires : goal.conductor_at-requires
conductor_at-requires c = λ v e. rw c.requires.kinds_len.1 (above_in _ c.requires.good _ v (free_in (goal.at.conductor_at-requires c).After-clearance _ c.in_ok-free.was) (sym c.above.ensures ∙ e))

pub returns : goal.returns
unfolding at_clearance
returns c = rw (sym c.clearance.ensures ∙ c.in_ok-free.was, eq-eqb _ air c.if-kinds-free-ne-AIR.false) (c.conductor_at.ensures ∙ rw c.above.ensures)
