-- `find_route` meets its contract: the class bytes are filled in from the sink's approach, and its goals are tried.
use Rattle.multinet.proofs.growing.find_route.Goals as goal

pub route_to_tree-requires-clause-attemptable : goal.route_to_tree-requires-clause-attemptable
route_to_tree-requires-clause-attemptable c = record { grounds = c.requires.grounds; memory = c.requires.memory; goal_in = c.requires.grounds.start_in; says = c.fill.ensures }

pub route_to_tree-requires-clause-best_len : goal.route_to_tree-requires-clause-best_len
route_to_tree-requires-clause-best_len c = c.requires.best-long
