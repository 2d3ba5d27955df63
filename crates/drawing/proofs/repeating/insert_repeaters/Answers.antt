-- `insert_repeaters` keeps its promise: refused, or the places listed over a cleared list.
use Rattle.std.proofs.lemmas.Result.{err_from_is_err_and}
use mathlib.Core.Path.{sym, ◌∙◌}
use Rattle.drawing.specs.PromiseLaws.{listable, listable-cleared, listed-cleared}
use Rattle.drawing.specs.ListPromiseLaws.{listed_unfit, listed-fit}
use Rattle.drawing.proofs.repeating.insert_repeaters.Goals as goal

pub returns-in_err-judge : goal.returns-in_err-judge
returns-in_err-judge c = let p = err_from_is_err_and c.from_residual.result c.from_residual.ensures.1 in rw (p.1, p.2) (listed_unfit _ _ _ _ _ _ _ (rw c.list_enough-enough.ensures at (sym c.judge.ensures) ∙ c.in_err-judge.was))

pub list_repeaters-requires : goal.list_repeaters-requires
list_repeaters-requires c =
    let h = listable-cleared c.args.cells.now c.args.facings.now c.clear.ensures c.clear-2.ensures (listable (rw c.list_enough-enough.ensures at (sym c.judge.ensures) ∙ c.in_ok-judge.was)) in
    record { listable = h.0; cells_value = h.1.0; facings_value = h.1.1 }

pub returns : goal.returns
returns c =
    let a = c.args in
    listed-fit _ _ _ _ _ _ (rw c.list_enough-enough.ensures at (sym c.judge.ensures) ∙ c.in_ok-judge.was) (listed-cleared a.cells.now a.facings.now c.clear.ensures c.clear-2.ensures c.list_repeaters.ensures)
