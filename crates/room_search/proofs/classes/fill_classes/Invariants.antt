-- `fill_classes` meets its contract. The loop's invariant: the cells below v have their class, and `layer` counts those of them that share v's x.
use Rattle.room_search.specs.ClassLaws.{Filling}
use Rattle.room_search.proofs.classes.fill_classes.Given as goal

abbrev pub invariant-loop-v : goal.invariant-loop-v
invariant-loop-v l = Filling l.room l.kinds l.v l.layer l.classes
