-- `kept_beneath` meets its contract: inside it is whether that cell is kept free, outside none is.
use mathlib.Core.Path.{sym, ◌∙◌}
use native.Mathlib.Omega.{arith}
use Rattle.room.specs.RoomLaws.{beneath_in}
use Rattle.why_tree.proofs.obstacles.kept_beneath.Goals as goal

pub kept_free-requires : goal.kept_free-requires
kept_free-requires c = let inside = beneath_in _ _ _ c.requires.cell_bound (sym c.beneath.ensures ∙ c.in-Some.is) in (omega (arith, c.requires.turn_fits.kinds-long), omega (arith, c.requires.turn_fits.blocked-long), omega (arith, c.requires.turn_fits.joinable-long))

pub returns-in-Some : goal.returns-in-Some
returns-in-Some c = rw (sym c.beneath.ensures ∙ c.in-Some.is) c.kept_free.ensures

pub returns-in-None : goal.returns-in-None
returns-in-None c = rw (sym c.beneath.ensures ∙ c.in-None.is)
