-- `linked_place` meets its contract: its test is that of the definition.
use mathlib.Core.Path.{◌∙◌, ap}
use borrow.Author.Tests.{eq-eqb, ne_eqb}
use Rattle.room.specs.Room.{neighbour_at}
use Rattle.repeaters.specs.LinkLaws.{ordered-small}
use Rattle.repeaters.proofs.links.linked_place.Goals as goal

pub neighbour_at-requires-clause-good : goal.neighbour_at-requires-clause-good
neighbour_at-requires-clause-good c = c.requires.good

pub neighbour_at-requires-clause-within : goal.neighbour_at-requires-clause-within
neighbour_at-requires-clause-within c = c.requires.within

pub neighbour_at-requires-clause-x_bound : goal.neighbour_at-requires-clause-x_bound
neighbour_at-requires-clause-x_bound c = rw c.ordered_move.ensures (ordered-small _ c.requires.k_bound)

pub returns-then-mask-eq1 : goal.returns-then-mask-eq1
returns-then-mask-eq1 c = rw (eq-eqb _ _ c.if-mask-eq1.true) (c.neighbour_at.ensures ∙ ap (neighbour_at c.args.room c.args.p) c.ordered_move.ensures)

pub returns-else-mask-eq1 : goal.returns-else-mask-eq1
returns-else-mask-eq1 c = rw (ne_eqb _ _ c.if-mask-eq1.false)
