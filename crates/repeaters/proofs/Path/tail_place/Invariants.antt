-- `Path::tail_place` meets its contract. The loop's invariant: the earliest of the places left is the earliest of all.
use Rattle.repeaters.specs.Repeaters.{tail_fit}
use Rattle.repeaters.specs.Links.{fit_by}
use Rattle.repeaters.specs.TailLaws.{Seeking}
use Rattle.repeaters.proofs.Path.tail_place.Given as goal

abbrev pub invariant-loop-i : goal.invariant-loop-i
invariant-loop-i l = Seeking (tail_fit (fit_by l.self.room l.self.links.now l.self.forbidden.now l.self.cells.now) l.self.cells.now l.repeaters) l.start l.end l.i
