-- `tell` meets its contract: a route and a number above 6 write their values, and numbers 2 to 6 none.
use mathlib.Core.Path.{sym, ◌∙◌}
use Rattle.exports.specs.ExportLaws.{values-written, values-kept}
use borrow.Author.Rules.{rules}
use Rattle.exports.proofs.search_values.tell.Goals as goal

pub returns-then-touches-clause-value : goal.returns-then-touches-clause-value
returns-then-touches-clause-value c =
    let args = c.args in
    let number = c.number_of-number.ensures in
    let touched = sym c.touches.ensures ∙ c.if-touches.true in number

pub returns-then-touches-clause-values_after : goal.returns-then-touches-clause-values_after
returns-then-touches-clause-values_after c =
    let args = c.args in
    let number = c.number_of-number.ensures in
    let touched = sym c.touches.ensures ∙ c.if-touches.true in values-written args.answer args.values.now number touched c.detail_of-detail.ensures c.route_of-route.ensures c.write_front.ensures

pub returns-else-touches-clause-value : goal.returns-else-touches-clause-value
returns-else-touches-clause-value c =
    let args = c.args in
    let number = c.number_of-number.ensures in number

pub returns-else-touches-clause-values_after : goal.returns-else-touches-clause-values_after
returns-else-touches-clause-values_after c =
    let args = c.args in
    let number = c.number_of-number.ensures in values-kept args.answer args.values.now number (sym c.touches.ensures ∙ c.if-touches.false)
