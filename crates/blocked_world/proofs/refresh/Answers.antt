-- `refresh` meets its contract: the cell's class, and that of the cell above where there is one.
use Rattle.std.proofs.Common.{sym, ◌∙◌}
use Rattle.room.specs.RoomLaws.{above_in}
use Rattle.blocked_world.specs.BlockedWorld.{refreshed}
use Rattle.blocked_world.proofs.refresh.Goals as goal

pub renew-requires-in-Some-clause-cell_bound : goal.renew-requires-in-Some-clause-cell_bound
renew-requires-in-Some-clause-cell_bound c = above_in _ c.requires.world_fits.good _ _ c.requires.cell_bound (sym c.above.ensures ∙ c.in-Some.is)

pub returns-in-Some : goal.returns-in-Some
unfolding refreshed
returns-in-Some c = rw (sym c.above.ensures ∙ c.in-Some.is) (rw c.renew.ensures at c.renew-in-Some.ensures)

pub returns-in_default : goal.returns-in_default
unfolding refreshed
returns-in_default c = rw (sym c.above.ensures ∙ c.in_default.is) c.renew.ensures
