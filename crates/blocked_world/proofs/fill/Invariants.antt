-- The cells below v have their class.
use Rattle.blocked_world.specs.SeenLaws.{Filled}
use Rattle.blocked_world.proofs.fill.Given as goal

abbrev pub invariant-loop-v : goal.invariant-loop-v
invariant-loop-v l = Filled l.fn.ground.mode l.fn.ground.room l.fn.kinds l.fn.blocked l.fn.start l.fn.goal l.v l.classes
