-- `kept_free` meets its contract: its tests are the definition's.
use mathlib.Core.Bool.{Bool, true, false}
use mathlib.Core.Path.{◌≡◌, sym, ◌∙◌}
use borrow.Author.Tests.{eqb-true, eq-eqb}
use Rattle.why_tree.proofs.TellingLaws.{kept-other, kept-unblocked, kept-blocked}
use Rattle.why_tree.proofs.obstacles.kept_free.Goals as goal
use Rattle.why_tree.proofs.obstacles.kept_free.Goals.{then-kinds-cell-eq-AIR, else-kinds-cell-eq-AIR}

clash : {b : Bool} → b ≡ false → b ≡ true → ⊥
clash p q = cc

pub returns-then-blocked-cell-eq-MARKED : goal.returns-then-blocked-cell-eq-MARKED
returns-then-blocked-cell-eq-MARKED c =
    let a = c.args in elim c.if-kinds-cell-eq-AIR.branch [
      | then-kinds-cell-eq-AIR w ↦ kept-blocked a.kinds.now a.blocked.now a.joinable.now a.approach a.cell w.if-kinds-cell-eq-AIR.true (eqb-true _ _ (sym w.value-is ∙ c.if-blocked-cell-eq-MARKED.true)) c.is_exempt.ensures
      | else-kinds-cell-eq-AIR w ↦ absurd (w.if-kinds-cell-eq-AIR.false (eqb-true _ _ (sym w.value-is ∙ c.if-blocked-cell-eq-MARKED.true)))
    ]

pub returns-else-blocked-cell-eq-MARKED : goal.returns-else-blocked-cell-eq-MARKED
returns-else-blocked-cell-eq-MARKED c =
    let a = c.args in
    elim c.if-kinds-cell-eq-AIR.branch [
      | then-kinds-cell-eq-AIR w ↦ c.if-blocked-cell-eq-MARKED.false ∙ kept-unblocked a.kinds.now a.blocked.now a.joinable.now a.approach a.cell (λ e. clash (sym w.value-is ∙ c.if-blocked-cell-eq-MARKED.false) (eq-eqb _ _ e))
      | else-kinds-cell-eq-AIR w ↦ c.if-blocked-cell-eq-MARKED.false ∙ kept-other a.kinds.now a.blocked.now a.joinable.now a.approach a.cell w.if-kinds-cell-eq-AIR.false
    ]
