-- `kind_beneath` meets its contract: inside it reads the kind, outside it is Solid.
use native.Mathlib.Omega.{arith}
use mathlib.Core.Path.{sym, ◌∙◌}
use Rattle.room.specs.RoomLaws.{beneath_in}
use Rattle.room_search.proofs.classes.kind_beneath.Goals as goal

pub bounds-kinds-below : goal.bounds-kinds-below
bounds-kinds-below c = omega (arith, beneath_in _ _ _ c.requires.cell_bound (sym c.beneath.ensures ∙ c.in-Some.is), c.requires.kinds_len)

pub returns-in-Some : goal.returns-in-Some
returns-in-Some c = rw (sym c.beneath.ensures ∙ c.in-Some.is)

pub returns-in-None : goal.returns-in-None
returns-in-None c = rw (sym c.beneath.ensures ∙ c.in-None.is)
