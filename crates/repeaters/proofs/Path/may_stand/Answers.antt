-- `Path::may_stand` meets its contract: its tests are those of the definition, in its order.
use Rattle.std.proofs.Common.{◌≡◌, sym, ◌∙◌, eqb-true, true, false}
use Rattle.std.proofs.lemmas.Bool.{eqb-false}
use borrow.Author.Tests.{eq-eqb}
use Rattle.basics.specs.Tests.{never}
use Rattle.repeaters.specs.Links.{linked_cells}
use Rattle.repeaters.specs.CandidateLaws.{fits_not_first, fits_not_last, fits_not_end, fits_not_two, fits_if}
use Rattle.repeaters.proofs.Path.may_stand.Goals as goal
use Rattle.repeaters.proofs.Path.may_stand.Goals.{then-i-eq0-via-then-i-eq0, then-i-eq0-via-else-i-eq0+then-self-i, then-self-cell-ne-MARKED, else-self-cell-ne-MARKED}

pub returns-then-i-eq0 : goal.returns-then-i-eq0
returns-then-i-eq0 c =
    elim c.then-i-eq0.branch [ then-i-eq0-via-then-i-eq0 w ↦ fits_not_first _ _ _ _ _ w.if-i-eq0.true | then-i-eq0-via-else-i-eq0+then-self-i w ↦ fits_not_last _ _ _ _ _ w.if-i-eq0.false w.if-self-i.true ]

pub returns-then-count_links-eq2 : goal.returns-then-count_links-eq2
unfolding linked_cells
returns-then-count_links-eq2 c =
    let straight = rw (c.as_index-cell.ensures.0, c.as_index.ensures.0, c.as_index-then-count_links-eq2.ensures.0) at c.goes_straight.ensures in
    elim c.if-self-cell-ne-MARKED.branch [
      | then-self-cell-ne-MARKED w ↦
          let two : w.count_links.result ≡ 2 = eqb-true _ 2 (sym w.value-is ∙ c.if-count_links-eq2.true) in
          straight ∙ fits_if _ _ _ _ _ c.if-i-eq0.false c.if-self-i.false (rw c.as_index-cell.ensures.0 at w.if-self-cell-ne-MARKED.true) (rw c.as_index-cell.ensures.0 at (sym w.count_links.ensures ∙ two))
      | else-self-cell-ne-MARKED w ↦ let no : true ≡ false = sym c.if-count_links-eq2.true ∙ w.value-is ∙ rw (eq-eqb _ 1 w.if-self-cell-ne-MARKED.false) in never (cc)
    ]

pub returns-else-count_links-eq2 : goal.returns-else-count_links-eq2
unfolding linked_cells
returns-else-count_links-eq2 c =
    c.if-count_links-eq2.false ∙ elim c.if-self-cell-ne-MARKED.branch [
      | then-self-cell-ne-MARKED w ↦
          let other = eqb-false w.count_links.result 2 (sym w.value-is ∙ c.if-count_links-eq2.false) in
          fits_not_two _ _ _ _ _ c.if-i-eq0.false c.if-self-i.false (rw c.as_index-cell.ensures.0 at w.if-self-cell-ne-MARKED.true) (λ e. other (w.count_links.ensures ∙ rw c.as_index-cell.ensures.0 e))
      | else-self-cell-ne-MARKED w ↦ fits_not_end _ _ _ _ _ c.if-i-eq0.false c.if-self-i.false (rw c.as_index-cell.ensures.0 at w.if-self-cell-ne-MARKED.false)
    ]
