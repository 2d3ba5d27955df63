-- `Search::spread` meets its contract. The loop's invariant: the visits left from here come to the same as all from the start.
use Rattle.std.proofs.Common.{arith, refl, ◌∙◌}
use Rattle.basics.specs.Zeros.{zeros-long}
use Rattle.room.specs.Room.{volume}
use Rattle.repeaters.specs.Links.{linked_cells}
use Rattle.repeaters.specs.RootLaws.{spreading_first, spreading_most, spreading_in, spreading_next, spreading_all}
use Rattle.repeaters.proofs.Search.spread.Goals as goal

pub meet-requires-clause-from_in_bounds : goal.meet-requires-clause-from_in_bounds
meet-requires-clause-from_in_bounds c = rw (zeros-long {n = volume c.args.room} c.requires.parents_value) c.requires.source_bound

pub meet-requires-clause-cell_in_bounds : goal.meet-requires-clause-cell_in_bounds
meet-requires-clause-cell_in_bounds c = rw (zeros-long {n = volume c.args.room} c.requires.parents_value) c.requires.source_bound

pub loop-head-init : goal.loop-head-init
loop-head-init c = let E = c.meet.ensures in record {
  parents_is = E.parents_is;
  line_is = E.line_is;
  spreading = spreading_first c.requires.source_bound (rw (c.requires.parents_value, c.requires.none_reached) at E.met);
}

pub offset_bounds-self-head : goal.offset_bounds-self-head
offset_bounds-self-head c = record { fits = omega (arith, spreading_most c.loop-head.invariant.spreading, c.loop-head-test.true, c.requires.good.few) }

pub bounds-self-head : goal.bounds-self-head
bounds-self-head c = let I = c.loop-head.invariant.spreading in omega (arith, spreading_most I, c.loop-head-test.true, I.held.line-long, I.long)

pub overflow_add-head : goal.overflow_add-head
overflow_add-head c = record { fits = omega (arith, spreading_most c.loop-head.invariant.spreading, c.loop-head-test.true, c.requires.good.few) }

pub offset_bounds-links-cell : goal.offset_bounds-links-cell
offset_bounds-links-cell c = record { fits = omega (arith, spreading_in c.loop-head.invariant.spreading c.loop-head-test.true _ c.as_index-cell.ensures.0, c.requires.good.few) }

pub bounds-links-cell : goal.bounds-links-cell
bounds-links-cell c = rw c.requires.links_len (spreading_in c.loop-head.invariant.spreading c.loop-head-test.true _ c.as_index-cell.ensures.0)

pub visit-requires-clause-parents_len : goal.visit-requires-clause-parents_len
visit-requires-clause-parents_len c = c.loop-head.invariant.spreading.long

pub visit-requires-clause-from_bound : goal.visit-requires-clause-from_bound
visit-requires-clause-from_bound c = spreading_in c.loop-head.invariant.spreading c.loop-head-test.true _ c.as_index-cell.ensures.0

pub loop-head-smaller : goal.loop-head-smaller
loop-head-smaller c = omega (arith, spreading_most c.loop-head.invariant.spreading, c.loop-head-test.true)

pub loop-head-preserved : goal.loop-head-preserved
unfolding linked_cells
loop-head-preserved c = let I = c.loop-head.invariant in let E = c.visit.ensures in record {
  parents_is = E.parents_is ∙ I.parents_is;
  line_is = E.line_is ∙ I.line_is;
  spreading = spreading_next I.spreading c.loop-head-test.true _ c.as_index-cell.ensures.0 E.met;
}

pub returns : goal.returns
returns c = let I = c.loop-head.invariant in record {
  parents_is = I.parents_is;
  line_is = I.line_is;
  long = I.spreading.long;
  rooted = spreading_all I.spreading c.loop-head-test.false _ refl;
}
