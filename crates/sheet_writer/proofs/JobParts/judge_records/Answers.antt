-- `JobParts::judge_records` meets its contract: the fault so far is carried from list to list, in the order of a sheet.
use Rattle.sheet_writer.specs.JobParts.{parts_in}
use Rattle.sheet_writer.specs.Faults.{judged-steps}
use Rattle.sheet_writer.proofs.JobParts.judge_records.Goals as goal

pub head_fault-fault-requires : goal.head_fault-fault-requires
head_fault-fault-requires c = c.requires.1

pub returns : goal.returns
returns c = let a = c.args in judged-steps a.version (parts_in a.self.now) _ _ _ _ _ _ _ _ c.head_fault-fault.ensures c.first_fault-fault.ensures c.first_fault-fault-2.ensures c.first_fault-fault-3.ensures c.first_fault-fault-4.ensures c.first_fault-fault-5.ensures c.end_fault-fault.ensures c.sinks_fault.ensures
