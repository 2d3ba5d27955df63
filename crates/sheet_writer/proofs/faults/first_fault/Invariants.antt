-- `first_fault` meets its contract: the fault so far and the records that are left come to what is asked for.
use Prim.Native.Nat.{◌/◌}
use mathlib.Core.List.{◌∷◌}
use lib.ListN.{length}
use Rattle.job_sheet.specs.Sheet.{first_fault}
use Rattle.sheet_writer.specs.Faults.{fault_from, faults_from, Scanned}
use Rattle.std.proofs.Common.{◌*◌, ◌/◌, ◌-◌, length}
use Rattle.sheet_writer.proofs.faults.first_fault.Given as goal

abbrev pub invariant-loop-k : goal.invariant-loop-k
invariant-loop-k l = Scanned (fault_from l.room l.records) l.size l.numbers (first_fault (l.initial.fault ∷ faults_from l.room l.records l.numbers)) l.fault (l.size * l.k) (length l.numbers / l.size - l.k)
