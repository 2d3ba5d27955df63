-- `climbs` meets its contract. The loop's invariant: the cells that the bits left lead to come to the same as all.
use mathlib.Core.Path.{sym, ◌∙◌}
use Rattle.room.specs.RoomLaws.{pos_in}
use Rattle.laying.specs.BearingLaws.{links-first, link_yes, link_no, link-none}
use Rattle.laying.proofs.bearing.climbs.Goals as goal

pub loop-k-init : goal.loop-k-init
loop-k-init c = links-first _ _ _ _

pub linked_place-place-requires-clause-within : goal.linked_place-place-requires-clause-within
linked_place-place-requires-clause-within c = rw c.pos-p.ensures (pos_in _ c.requires.good _ c.requires.cell_bound)

pub returns-then-off_level : goal.returns-then-off_level
returns-then-off_level c = rw c.pos-p.ensures at (link_yes _ _ _ _ c.loop-k.invariant c.loop-k-test.true (rw c.linked_place-place.ensures at (sym c.off_level.ensures ∙ c.if-off_level.true)))

pub loop-k-preserved : goal.loop-k-preserved
loop-k-preserved c = link_no _ _ _ _ c.loop-k.invariant c.loop-k-test.true (rw c.linked_place-place.ensures at (sym c.off_level.ensures ∙ c.if-off_level.false))

pub returns : goal.returns
returns c = rw c.pos-p.ensures at (link-none _ _ _ _ c.loop-k.invariant c.loop-k-test.false)
