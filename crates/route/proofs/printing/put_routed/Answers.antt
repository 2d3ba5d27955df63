-- `put_routed` meets its contract: the promise of `route_net_tree` at this program's lengths, and its lines.
use mathlib.Core.Path.{◌∙◌}
use Prim.Native.Nat.{ℕ}
use lib.ListN.{length-replicate}
use Rattle.route.specs.Printed.{max_cells, max_branch_cells}
use Rattle.route.specs.PrintedLaws.{promise_branched, promise_fits, promise_shown, own-lengths}
use Rattle.route.proofs.printing.put_routed.Goals as goal

pub put_answer-requires-clause-branched : goal.put_answer-requires-clause-branched
put_answer-requires-clause-branched c =
    let run = c.route_net_tree-answer in promise_branched c.route_net_tree-answer.ensures

pub put_answer-requires-clause-fits : goal.put_answer-requires-clause-fits
put_answer-requires-clause-fits c =
    let run = c.route_net_tree-answer in promise_fits c.route_net_tree-answer.ensures (c.route_net_tree-answer.auto.branches ∙ length-replicate {A = ℕ} max_branch_cells 0) (c.route_net_tree-answer.auto.repeaters ∙ length-replicate {A = ℕ} max_cells 0) c.requires

pub returns : goal.returns
returns c =
    let run = c.route_net_tree-answer in
    promise_shown c.route_net_tree-answer.ensures own-lengths
    (promise_fits c.route_net_tree-answer.ensures (c.route_net_tree-answer.auto.branches ∙ length-replicate {A = ℕ} max_branch_cells 0) (c.route_net_tree-answer.auto.repeaters ∙ length-replicate {A = ℕ} max_cells 0) c.requires) c.put_answer.ensures
