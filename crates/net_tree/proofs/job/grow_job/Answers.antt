-- `grow_job` meets its contract: the source is planted, the tree grows, and what comes of it is gathered.
use Rattle.net_tree.specs.GrowJobLaws.{plantable, gatherable, gathered}
use Rattle.net_tree.proofs.job.grow_job.Goals as goal

pub grow_tree-growth-requires : goal.grow_tree-growth-requires
grow_tree-growth-requires c = plantable c.requires c.plant.ensures

pub gather-requires : goal.gather-requires
gather-requires c = gatherable c.requires c.grow_tree-growth.ensures c.grow_tree-growth.auto.classes c.grow_tree-growth.auto.known c.grow_tree-growth.auto.previous c.grow_tree-growth.auto.path

pub returns : goal.returns
returns c = gathered c.requires c.grow_tree-growth.ensures c.gather.ensures
