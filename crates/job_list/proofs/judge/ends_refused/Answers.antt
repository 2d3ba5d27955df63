-- `ends_refused` meets its contract: the cells, then the ends.
use Rattle.outset.specs.SetOutLaws.{good-room, block-list, source-within, sinks-within}
use Rattle.job_list.specs.JudgeLaws.{told-repeats, told-good, told-end}
use Rattle.job_list.proofs.judge.ends_refused.Goals as goal

pub cell_repeats-requires-clause-good : goal.cell_repeats-requires-clause-good
cell_repeats-requires-clause-good c = good-room c.requires

pub cell_repeats-requires-clause-block_list : goal.cell_repeats-requires-clause-block_list
cell_repeats-requires-clause-block_list c = block-list c.requires

pub returns-then-cell_repeats : goal.returns-then-cell_repeats
returns-then-cell_repeats c = told-repeats c.requires c.cell_repeats.ensures c.if-cell_repeats.true

pub realize_ends-requires-clause-good : goal.realize_ends-requires-clause-good
realize_ends-requires-clause-good c = good-room c.requires

pub realize_ends-requires-clause-within : goal.realize_ends-requires-clause-within
realize_ends-requires-clause-within c = source-within c.requires

pub realize_ends-requires-clause-sink_list : goal.realize_ends-requires-clause-sink_list
realize_ends-requires-clause-sink_list c = sinks-within c.requires

pub returns-in-Err : goal.returns-in-Err
returns-in-Err c = told-end c.requires c.cell_repeats.ensures c.if-cell_repeats.false c.realize_ends.ensures c.in-Err.is

pub returns-in-Ok : goal.returns-in-Ok
returns-in-Ok c = told-good c.requires c.cell_repeats.ensures c.if-cell_repeats.false c.realize_ends.ensures c.in-Ok.is
