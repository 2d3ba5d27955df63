-- `regrow` meets its contract: set out, planted and grown; the growth ends early.
use Rattle.outset.specs.SetOutLaws.{set-told, told-ends}
use Rattle.sink_why.specs.GrowthAgainLaws.{set-asked, set-ready, source-there, plantable-again, not_whole, regrown}
use borrow.Author.Rules.{rules}
use Rattle.sink_why.proofs.growth.regrow.Goals as goal

pub set_out-requires : goal.set_out-requires
set_out-requires c = set-asked c.requires

pub unwrap-ends-requires : goal.unwrap-ends-requires
unwrap-ends-requires c = let T = c.set_out.ensures in rw (told-ends T (set-ready c.requires T.is_set)) (search rules)

pub plant-requires : goal.plant-requires
plant-requires c = source-there c.requires (set-told c.set_out.ensures c.unwrap-ends.ensures)

pub grow_tree-growth-requires : goal.grow_tree-growth-requires
grow_tree-growth-requires c = plantable-again c.requires (set-told c.set_out.ensures c.unwrap-ends.ensures) c.plant.ensures

pub unreachable-requires : goal.unreachable-requires
unreachable-requires c = not_whole c.requires (set-told c.set_out.ensures c.unwrap-ends.ensures) c.grow_tree-growth.ensures c.in-Ok.is

pub returns-clause-regrown : goal.returns-clause-regrown
returns-clause-regrown c = regrown c.requires (set-told c.set_out.ensures c.unwrap-ends.ensures) c.grow_tree-growth.ensures c.in-Err.is c.stopping_of.ensures
