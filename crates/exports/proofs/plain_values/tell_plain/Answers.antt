-- `tell_plain` meets its contract: a route and a number above 6 write their values, and numbers 2 to 6 none.
use Rattle.std.specs.Prelude.{length, ◌∷◌, []}
use Rattle.std.proofs.Common.{take_all}
use mathlib.Core.Path.{sym, ◌∙◌}
use Rattle.exports.specs.PlainExportLaws.{plain-written, plain-kept}
use borrow.Author.Rules.{rules}
use Rattle.exports.proofs.plain_values.tell_plain.Goals as goal

pub returns-then-touches-clause-value : goal.returns-then-touches-clause-value
returns-then-touches-clause-value c =
    let a = c.args in
    let number = c.plain_number-number.ensures in number

pub returns-then-touches-clause-values_after : goal.returns-then-touches-clause-values_after
returns-then-touches-clause-values_after c =
    let a = c.args in
    let number = c.plain_number-number.ensures in plain-written a.answer a.values.now number (sym c.touches.ensures ∙ c.if-touches.true) c.plain_detail-detail.ensures c.plain_route_of-route.ensures (rw (take_all (length a.values.now) (c.plain_detail-detail.result ∷ c.plain_route_of-route.result.length ∷ c.plain_route_of-route.result.cost.0 ∷ []) c.requires) at c.write_front.ensures)

pub returns-else-touches-clause-value : goal.returns-else-touches-clause-value
returns-else-touches-clause-value c =
    let a = c.args in
    let number = c.plain_number-number.ensures in number

pub returns-else-touches-clause-values_after : goal.returns-else-touches-clause-values_after
returns-else-touches-clause-values_after c =
    let a = c.args in
    let number = c.plain_number-number.ensures in plain-kept a.answer a.values.now number (sym c.touches.ensures ∙ c.if-touches.false)
