-- `flood` meets its contract. The loop's invariant: each cell marked is reached, and the moves of the cells visited lead to cells marked.
use native.Mathlib.Omega.{arith}
use mathlib.Core.Path.{sym, ◌∙◌}
use Prim.Native.Nat.{◌-◌}
use Rattle.basics.specs.Zeros.{zeros-long}
use Rattle.room.specs.Room.{volume}
use Rattle.flood.specs.Walls.{free_by}
use Rattle.flood.specs.Flooding.{Flooding}
use Rattle.flood.specs.Walls.{byte_of}
use Rattle.flood.specs.FloodLaws.{flooding_first, flooding_most, flooding_in, flooding_next, flooding_all, flood_marks}
use borrow.Author.Rules.{rules}
use Rattle.flood.proofs.marks.flood.Given as goal

abbrev pub invariant-loop-head : goal.invariant-loop-head
invariant-loop-head l = Flooding (free_by l.room (byte_of l.obstacles)) (volume l.room) l.start l.reached l.line l.head l.end

abbrev pub decreases-loop-head : goal.decreases-loop-head
decreases-loop-head l = volume l.room - l.head
