-- `place_repeaters` meets its contract: the net's ends are marked, and then the repeaters are planned off them.
use Rattle.repeaters.specs.NetEndLaws.{ends_in, plannable, net-placed}
use Rattle.repeaters.proofs.place_repeaters.Goals as goal

pub mark_net_ends-requires : goal.mark_net_ends-requires
mark_net_ends-requires c = ends_in c.requires

pub plan_tree-requires : goal.plan_tree-requires
plan_tree-requires c = plannable c.requires c.mark_net_ends.ensures

pub returns : goal.returns
returns c = net-placed c.requires _ c.mark_net_ends.ensures c.plan_tree.ensures
