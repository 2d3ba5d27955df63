-- `Tree::reinforce_sink` meets its contract: the path stands at the front of the line.
use Rattle.repeaters.specs.SinkLaws.{path-ready}
use Rattle.repeaters.proofs.Tree.reinforce_sink.Goals as goal

pub invariant_of-path : goal.invariant_of-path
invariant_of-path c = record { ready = path-ready c.args.self.now.ready c.requires.terminal_bound c.root_path-count.ensures }
