-- `route_net` meets its contract: prepared, and grown.
use mathlib.Core.Path.{◌≡◌, refl, sym, ap, ◌∙◌}
use Rattle.nets.specs.RouteLaws.{net-growable, net-routed}
use borrow.Author.Rules.{rules}
use Rattle.nets.proofs.route_net.Goals as goal

pub prepare_net-ends-requires : goal.prepare_net-ends-requires
prepare_net-ends-requires c = c.requires.asked

pub grow_job-requires : goal.grow_job-requires
grow_job-requires c = net-growable c.requires c.prepare_net-ends.ensures _

pub returns : goal.returns
returns c = net-routed c.requires c.prepare_net-ends.ensures _ c.grow_job.ensures
