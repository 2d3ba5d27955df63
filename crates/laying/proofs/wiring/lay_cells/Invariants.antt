-- `lay_cells` meets its contract. The loop's invariant: the cells left make of the room of now what all make of it at the start.
use Rattle.room.specs.Room.{volume}
use Rattle.routing_resources.specs.Marks.{is_marked}
use Rattle.ends.specs.Ends.{taps_in}
use Rattle.repeaters.specs.Links.{linked_cells}
use Rattle.laying.specs.Laying.{laid_cell}
use Rattle.laying.specs.PassingLaws.{LaidSoFar}
use Rattle.laying.proofs.wiring.lay_cells.Given as goal

abbrev pub invariant-loop-cell : goal.invariant-loop-cell
invariant-loop-cell l = LaidSoFar (laid_cell l.room (linked_cells l.room l.links) (taps_in l.taps) l.repeaters) (is_marked l.occupied) (volume l.room) l.initial.kinds l.initial.facings l.kinds l.facings l.cell
