-- `blocks_of` meets its contract: the first list behind the head.
use Rattle.job_list.specs.Grounds.{blocks-listed}
use Rattle.job_list.proofs.ground.blocks_of.Goals as goal

pub returns : goal.returns
returns c = blocks-listed c.version_in-version.ensures c.block_size-size.ensures c.lists_place.ensures c.list_at.ensures
