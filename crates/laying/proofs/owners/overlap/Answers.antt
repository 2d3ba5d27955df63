-- `overlap` meets its contract. The loop's invariant: no cell so far is met.
use mathlib.Core.Path.{sym, ◌∙◌}
use Rattle.laying.specs.OwnerLaws.{met-first, met_no, met_yes, met-none}
use Rattle.laying.proofs.owners.overlap.Goals as goal

pub loop-cell-init : goal.loop-cell-init
loop-cell-init c = met-first _ _

pub returns-then-meets : goal.returns-then-meets
returns-then-meets c = met_yes _ _ c.loop-cell.invariant c.loop-cell-test.true (sym c.meets.ensures ∙ c.if-meets.true)

pub loop-cell-preserved : goal.loop-cell-preserved
loop-cell-preserved c = met_no _ _ c.loop-cell.invariant c.loop-cell-test.true (sym c.meets.ensures ∙ c.if-meets.false)

pub returns : goal.returns
returns c = met-none _ _ c.loop-cell.invariant c.loop-cell-test.false
