-- `prepare_net` meets its contract: its own outset, then what the others leave it.
use borrow.Author.Rules.{rules}
use Rattle.outset.specs.SetOutLaws.{set-told, told-ends}
use Rattle.nets.specs.RouteLaws.{set-asked, ready-set, others-ready, net_prepared}
use Rattle.nets.proofs.prepare_net.Goals as goal

pub set_out-requires : goal.set_out-requires
set_out-requires c = set-asked c.requires

pub unwrap-ends-requires : goal.unwrap-ends-requires
unwrap-ends-requires c = let T = c.set_out.ensures in rw (told-ends T (ready-set c.requires T.is_set)) (search rules)

pub block_others-requires : goal.block_others-requires
block_others-requires c = others-ready c.requires (set-told c.set_out.ensures c.unwrap-ends.ensures) c.set_out.auto.blocked

pub returns : goal.returns
returns c = net_prepared c.requires (set-told c.set_out.ensures c.unwrap-ends.ensures) c.block_others.ensures
