-- `sinks_from` meets its contract: what is gathered so far stands before places that hold nothing.
use Rattle.job_sheet.proofs.ScanLaws.{SinksGathered}
use Rattle.job_sheet.proofs.sinks_from.Given as goal

abbrev pub invariant-loop-k : goal.invariant-loop-k
invariant-loop-k l = SinksGathered l.version l.sheet l.from l.count l.size l.ends l.k
