-- `read_lines` meets its contract: what is left of the text comes to what the whole comes to.
use Prim.Native.Nat.{◌-◌}
use lib.ListN.{length}
use Rattle.function_file.specs.ReadLaws.{ReadSoFar}
use Rattle.function_file.proofs.reading.read_lines.Given as goal

abbrev pub invariant-loop-at : goal.invariant-loop-at
invariant-loop-at l = ReadSoFar l.room l.text l.initial.kinds l.initial.facings l.kinds l.facings l.at l.next l.lines

abbrev pub decreases-loop-at : goal.decreases-loop-at
decreases-loop-at l = length l.text - l.at
