-- `fill_obstacles` meets its contract. The loop's invariant: the cells below v have their obstacle.
use Prim.Native.Nat.{ℕ}
use Rattle.why.specs.ObstacleLaws.{Turning}
use Rattle.why_tree.specs.WhyTree.{tree_obstacle}
use Rattle.why_tree.proofs.obstacles.fill_obstacles.Given as goal

abbrev pub invariant-loop-v : goal.invariant-loop-v
invariant-loop-v l = Turning (λ (k byte : ℕ). tree_obstacle l.ground.mode l.ground.room l.kinds l.blocked l.joinable l.approach k) l.initial.obstacles l.obstacles l.v
