-- `link_branch` meets its contract. The loop's invariant: the steps left, added to the relation of now, make all steps added to that of the start.
use Rattle.std.proofs.Common.{◌≡◌, length}
use Rattle.std.specs.Slice.Iter.{windows_rest, windows_size}
use Rattle.repeaters.specs.AdjacencyLaws.{StepsLeft}
use Rattle.repeaters.proofs.links.link_branch.Given as goal

abbrev pub invariant-loop-step : goal.invariant-loop-step
invariant-loop-step l = (windows_size l.step-iterator ≡ 2) × (length l.links ≡ length l.initial.links) × StepsLeft l.room l.branch l.initial.links l.links (windows_rest l.step-iterator)
