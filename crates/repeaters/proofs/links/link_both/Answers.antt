-- `link_both` meets its contract: the step goes both ways.
use Rattle.repeaters.specs.MaskLaws.{step_back, masked_linked, linked-both}
use Rattle.repeaters.proofs.links.link_both.Goals as goal

pub link-requires-clause-good : goal.link-requires-clause-good
link-requires-clause-good c = c.requires.good

pub link-requires-clause-step : goal.link-requires-clause-step
link-requires-clause-step c = step_back c.requires.step c.requires.good

pub link-requires-clause-masked : goal.link-requires-clause-masked
link-requires-clause-masked c = c.requires.masked

pub link-requires-2-clause-good : goal.link-requires-2-clause-good
link-requires-2-clause-good c = c.requires.good

pub link-requires-2-clause-step : goal.link-requires-2-clause-step
link-requires-2-clause-step c = c.requires.step

pub link-requires-2-clause-masked : goal.link-requires-2-clause-masked
link-requires-2-clause-masked c = masked_linked c.requires.masked c.link.ensures

pub returns : goal.returns
returns c = linked-both _ _ c.link.ensures c.link-2.ensures
