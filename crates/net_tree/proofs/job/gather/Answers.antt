-- `gather` meets its contract: the number that ended the growth, or the harvest of a whole tree.
use mathlib.Core.Path.{refl, ◌∙◌}
use Rattle.std.proofs.lemmas.Result.{err_from_is_err_and}
use Rattle.net_tree.specs.Entry.{ended-early, in_whole}
use Rattle.net_tree.proofs.job.gather.Goals as goal

pub harvest-requires : goal.harvest-requires
harvest-requires c = c.requires.harvestable _ c.in_ok-lengths.was

pub returns : goal.returns
returns c = in_whole _ c.in_ok-lengths.was _ refl c.harvest.ensures

pub returns-in_err-lengths : goal.returns-in_err-lengths
returns-in_err-lengths c = let p = err_from_is_err_and c.from_residual.result c.from_residual.ensures.1 in ended-early _ c.in_err-lengths.was (p.1 ∙ p.2)
