-- `count_enterable` meets its contract: each round counts one cell or passes it.
use Rattle.goals.specs.EnterLaws.{EnterableCounted}
use Rattle.goals.proofs.to_tree.count_enterable.Given as goal

abbrev pub invariant-loop-class : goal.invariant-loop-class
invariant-loop-class l = EnterableCounted l.classes l.count l.class-index
