-- `Tree::plan_repeaters` meets its contract. The loop's invariant: the sinks left come to the same as all from the start.
use mathlib.Core.Path.{◌≡◌}
use lib.ListN.{length}
use Rattle.repeaters.specs.Repeaters.{run_of}
use Rattle.repeaters.specs.Links.{linked_cells}
use Rattle.repeaters.specs.SinkLaws.{Sown}
use Rattle.repeaters.proofs.Tree.plan_repeaters.Given as goal

abbrev pub invariant-loop-tap : goal.invariant-loop-tap
invariant-loop-tap l = (length l.line ≡ length l.initial.line) × Sown (run_of l.self.room (linked_cells l.self.room l.self.links.now) l.self.parents.now l.self.forbidden.now l.limit) l.fn.taps l.initial.repeaters l.repeaters l.tap-index
