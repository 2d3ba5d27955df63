-- `Search::visit` meets its contract. The loop's invariant: meeting the cells that the bits left lead to comes to the same as meeting all at the start.
use Rattle.std.proofs.Common.{◌∙◌}
use Rattle.room.specs.RoomLaws.{pos_in}
use Rattle.repeaters.specs.LinkLaws.{linked_in}
use Rattle.repeaters.specs.RootLaws.{visiting_next, visiting_all}
use Rattle.repeaters.proofs.Search.visit.Goals as goal

pub linked_place-place-requires-clause-within : goal.linked_place-place-requires-clause-within
linked_place-place-requires-clause-within c = rw c.pos-p.ensures (pos_in _ c.requires.good _ c.requires.from_bound)

pub meet_place-requires-clause-by_index : goal.meet_place-requires-clause-by_index
meet_place-requires-clause-by_index c =
    let long = c.loop-k.invariant.visiting.long ∙ c.requires.parents_len in
    let in_room = linked_in _ c.args.from _ c.loop-k.rest c.loop-k.k c.pos-p.ensures _ c.linked_place-place.ensures in λ v e. rw long (in_room v e)

pub loop-k-preserved : goal.loop-k-preserved
loop-k-preserved c = let I = c.loop-k.invariant in let E = c.meet_place.ensures in record {
  parents_is = E.parents_is ∙ I.parents_is;
  line_is = E.line_is ∙ I.line_is;
  visiting = visiting_next I.visiting c.loop-k-test.true _ c.linked_place-place.ensures E.met;
}

pub returns : goal.returns
returns c = let I = c.loop-k.invariant in record {
  parents_is = I.parents_is;
  line_is = I.line_is;
  met = rw c.pos-p.ensures at (visiting_all I.visiting c.loop-k-test.false);
}
