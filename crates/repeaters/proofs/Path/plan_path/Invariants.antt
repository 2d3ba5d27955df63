-- `Path::plan_path` meets its contract. The loop's invariant: the strides left from here come to the same as all from the source.
use Rattle.repeaters.specs.Links.{fit_by}
use Rattle.repeaters.specs.Strides.{strides_left}
use Rattle.repeaters.specs.StrideLaws.{Striding}
use Rattle.repeaters.proofs.Path.plan_path.Given as goal

abbrev pub invariant-loop-s : goal.invariant-loop-s
invariant-loop-s l = Striding l.limit (fit_by l.self.room l.self.links.now l.self.forbidden.now l.self.cells.now) l.self.cells.now l.initial.repeaters l.repeaters l.s

abbrev pub decreases-loop-s : goal.decreases-loop-s
decreases-loop-s l = strides_left l.self.cells.now l.s
