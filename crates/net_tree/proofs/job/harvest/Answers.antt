-- `harvest` meets its contract: no mark forbids at first, the tree is finished, and its marks are counted.
use mathlib.Core.Path.{refl}
use Rattle.net_tree.specs.GrowJobLaws.{harvest_finishable}
use Rattle.net_tree.proofs.job.harvest.Goals as goal

pub finish_tree-requires : goal.finish_tree-requires
finish_tree-requires c = harvest_finishable c.requires c.clear.ensures

pub returns : goal.returns
returns c = record { answer = rw (c.count_marks.ensures, c.count_marks-2.ensures) refl; finished = c.finish_tree.ensures }
