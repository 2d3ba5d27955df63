-- `turn_to_obstacles` meets its contract. The loop's invariant: the classes of the cells below v are turned, the others as they were.
use native.Mathlib.Omega.{arith}
use mathlib.Core.Path.{sym}
use Prim.Native.Nat.{ℕ, ◌-◌}
use lib.ListN.{get_or}
use Rattle.room.specs.Units.{air}
use Rattle.room_search.specs.Routing.{an_end}
use Rattle.why.specs.Telling.{obstacle_by}
use Rattle.why.specs.ObstacleLaws.{Turning, turning_none, turning_next, turning_all}
use borrow.Author.Rules.{rules}
use Rattle.why.proofs.obstacles.turn_to_obstacles.Given as goal

abbrev pub invariant-loop-v : goal.invariant-loop-v
invariant-loop-v l = Turning (λ (k class : ℕ). obstacle_by (an_end l.start l.goal k) (get_or l.kinds k air) class) l.initial.classes l.classes l.v
