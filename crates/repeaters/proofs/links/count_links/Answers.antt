-- `count_links` meets its contract. The loop's invariant: the cells counted and those that the bits left lead to make all.
use mathlib.Core.Path.{◌∙◌, ap}
use Rattle.room.specs.RoomLaws.{pos_in}
use Rattle.repeaters.specs.Links.{inside_count}
use Rattle.repeaters.specs.LinkLaws.{links-next, links-all, counted}
use Rattle.repeaters.proofs.links.count_links.Goals as goal

pub linked_place-place-requires-clause-within : goal.linked_place-place-requires-clause-within
linked_place-place-requires-clause-within c = rw c.pos-p.ensures (pos_in _ c.requires.good _ c.requires.cell_bound)

pub loop-k-preserved : goal.loop-k-preserved
loop-k-preserved c = links-next c.loop-k.invariant c.loop-k-test.true _ (counted c.linked_place-place.result _ _ c.is_some.ensures c.from-count.ensures ∙ ap inside_count c.linked_place-place.ensures)

pub returns : goal.returns
returns c = rw c.pos-p.ensures at (links-all c.loop-k.invariant c.loop-k-test.false)
