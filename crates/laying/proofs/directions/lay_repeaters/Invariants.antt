-- `lay_repeaters` meets its contract. The loop's invariant: the repeaters left make of the room of now what all make of it at the start.
use Rattle.room.specs.Room.{volume}
use Rattle.routing_resources.specs.Marks.{is_marked}
use Rattle.laying.specs.Laying.{laid_repeater}
use Rattle.laying.specs.PassingLaws.{LaidSoFar}
use Rattle.laying.proofs.directions.lay_repeaters.Given as goal

abbrev pub invariant-loop-cell : goal.invariant-loop-cell
invariant-loop-cell l = LaidSoFar (laid_repeater l.room l.parents) (is_marked l.repeaters) (volume l.room) l.initial.kinds l.initial.facings l.kinds l.facings l.cell
