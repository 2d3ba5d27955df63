-- `judge` meets its contract: the fault so far is carried from list to list, in the sheet's order.
use Rattle.job_sheet.specs.LayoutLaws.{parts_in}
use Rattle.job_sheet.proofs.FaultLaws.{judged-steps}
use Rattle.job_sheet.proofs.faults.judge.Goals as goal

pub head_fault-fault-requires : goal.head_fault-fault-requires
head_fault-fault-requires c = c.requires.searchable

pub first_fault-fault-requires : goal.first_fault-fault-requires
first_fault-fault-requires c = let pre = c.requires.layout_value in (parts_in _ _ pre.1 _ pre.0).blocks

pub first_fault-fault-requires-2 : goal.first_fault-fault-requires-2
first_fault-fault-requires-2 c = let pre = c.requires.layout_value in (parts_in _ _ pre.1 _ pre.0).conductors

pub first_fault-fault-requires-3 : goal.first_fault-fault-requires-3
first_fault-fault-requires-3 c = let pre = c.requires.layout_value in (parts_in _ _ pre.1 _ pre.0).clearances

pub first_fault-fault-requires-4 : goal.first_fault-fault-requires-4
first_fault-fault-requires-4 c = let pre = c.requires.layout_value in (parts_in _ _ pre.1 _ pre.0).terminals

pub first_fault-fault-requires-5 : goal.first_fault-fault-requires-5
first_fault-fault-requires-5 c = let pre = c.requires.layout_value in (parts_in _ _ pre.1 _ pre.0).reserved

pub first_fault-fault-requires-6 : goal.first_fault-fault-requires-6
first_fault-fault-requires-6 c = let pre = c.requires.layout_value in (parts_in _ _ pre.1 _ pre.0).source

pub first_fault-requires : goal.first_fault-requires
first_fault-requires c = let pre = c.requires.layout_value in (parts_in _ _ pre.1 _ pre.0).sinks

pub returns : goal.returns
returns c =
    judged-steps _ _ _ _ _ _ c.room_from-room.ensures c.config_from-config.ensures c.run_from-run.ensures c.requires.layout_value.0 _ _ _ _ _ _ _ _ c.head_fault-fault.ensures
    c.first_fault-fault.ensures c.first_fault-fault-2.ensures c.first_fault-fault-3.ensures c.first_fault-fault-4.ensures c.first_fault-fault-5.ensures c.first_fault-fault-6.ensures c.first_fault.ensures
