-- `first_fault` meets its contract: the fault so far and the records that are left come to what is asked for.
use Prim.Native.Nat.{◌+◌, ◌-◌, ◌*◌}
use Rattle.job_sheet.proofs.ScanLaws.{Scanned}
use Rattle.job_sheet.proofs.faults.first_fault.Given as goal

abbrev pub invariant-loop-i : goal.invariant-loop-i
invariant-loop-i l =
    Scanned l.version l.sheet l.room l.records l.part.size l.initial.fault l.part.from l.part.count l.fault (l.part.from + l.part.size * l.i) (l.part.count - l.i)
