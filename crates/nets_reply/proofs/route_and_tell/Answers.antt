-- `route_and_tell` meets its contract: too few values are as a queue without a place; else the list is answered and told.
use Rattle.nets_reply.specs.ReplyLaws.{told-short, told-well}
use Rattle.list_routing.specs.ListLent.{list_lent}
use mathlib.Core.Path.{refl}
use native.Mathlib.Omega.{arith}
use Rattle.nets_reply.proofs.route_and_tell.Goals as goal

pub slice_bounds-route_nets-end : goal.slice_bounds-route_nets-end
slice_bounds-route_nets-end c = omega arith

pub slice_bounds-route_nets-end-then-values-lt-VALUES : goal.slice_bounds-route_nets-end-then-values-lt-VALUES
slice_bounds-route_nets-end-then-values-lt-VALUES c = refl

pub returns-then-values-lt-VALUES : goal.returns-then-values-lt-VALUES
returns-then-values-lt-VALUES c = rw c.number_told.ensures (told-short (list_lent c.args.branches.now c.args.lengths.now c.args.owners.now c.args.repeaters.now c.args.kinds.now c.args.facings.now c.args.occupied.now c.args.planned.now c.args.before.now c.args.unlaid.now c.args.blocked.now c.args.classes.now c.args.joinable.now c.args.known.now c.args.previous.now c.args.path.now c.args.best.now c.args.queue.now) c.args.values.now c.if-values-lt-VALUES.true c.route_nets-short.ensures)

pub write_values-requires : goal.write_values-requires
write_values-requires c = c.if-values-lt-VALUES.false

pub returns : goal.returns
returns c = rw c.number_told-2.ensures (told-well (list_lent c.args.branches.now c.args.lengths.now c.args.owners.now c.args.repeaters.now c.args.kinds.now c.args.facings.now c.args.occupied.now c.args.planned.now c.args.before.now c.args.unlaid.now c.args.blocked.now c.args.classes.now c.args.joinable.now c.args.known.now c.args.previous.now c.args.path.now c.args.best.now c.args.queue.now) c.args.values.now c.if-values-lt-VALUES.false c.route_nets-answer.ensures c.write_values.ensures)
