-- `block_others` meets its contract: the nets before, the other jobs, then the net's own ends.
use mathlib.Core.Path.{◌∙◌}
use Rattle.other_nets.specs.OtherLaws.{list-still, others-blocked}
use Rattle.other_nets.proofs.protected.block_others.Goals as goal

pub mark_jobs-requires : goal.mark_jobs-requires
mark_jobs-requires c = list-still c.requires.ready (c.add_marks.auto.marks ∙ c.requires.ready.long)

pub take_out_ends-requires-clause-good : goal.take_out_ends-requires-clause-good
take_out_ends-requires-clause-good c = c.requires.ready.good

pub take_out_ends-requires-clause-net_inside : goal.take_out_ends-requires-clause-net_inside
take_out_ends-requires-clause-net_inside c = c.requires.net

pub take_out_ends-requires-clause-marks_len : goal.take_out_ends-requires-clause-marks_len
take_out_ends-requires-clause-marks_len c = c.mark_jobs.auto.marks ∙ c.add_marks.auto.marks ∙ c.requires.ready.long

pub returns : goal.returns
returns c = others-blocked c.add_marks.ensures c.mark_jobs.ensures c.take_out_ends.ensures
