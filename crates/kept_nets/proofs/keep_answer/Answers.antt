-- `keep_answer` meets its contract.
use Rattle.kept_nets.specs.Keep.{kept-one, kept-none}
use Rattle.kept_nets.proofs.keep_answer.Goals as goal

pub keep_net-requires : goal.keep_net-requires
keep_net-requires c = c.requires.keepable _ c.in-Ok.is

pub returns-in-Ok : goal.returns-in-Ok
returns-in-Ok c = kept-one _ c.in-Ok.is c.keep_net.ensures

pub returns-in_default : goal.returns-in_default
returns-in_default c = kept-none _ c.in_default.is
