-- `support_kind` meets its contract: its tests are those of the definition, in turn.
use Rattle.std.proofs.Common.{◌≡◌, true, false, sym, ◌∙◌, arith, rules, tests}
use Rattle.basics.specs.Tests.{never}
use Rattle.repeaters.specs.Links.{linked_cells}
use Rattle.laying.specs.Laying.{stair_end}
use Rattle.laying.specs.BearingLaws.{support_planned, support_powered, support_stair, support_plain}
use Rattle.laying.proofs.bearing.support_kind.Goals as goal
use Rattle.laying.proofs.bearing.support_kind.Goals.{then-planned, else-planned, then-powered_at, else-powered_at}

pub returns-then-climbs : goal.returns-then-climbs
unfolding stair_end linked_cells
returns-then-climbs c =
    elim c.if-planned.branch [
      | then-planned u ↦ support_planned _ _ _ _ _ (omega (arith, u.if-planned.true))
      | else-planned u ↦
          elim c.if-powered_at.branch [
            | then-powered_at w ↦ support_powered _ _ _ _ _ (λ is. absurd (omega (arith, is, u.if-planned.false))) (sym u.powered_at.ensures ∙ sym u.value-is ∙ w.if-powered_at.true)
            | else-powered_at w ↦ support_stair _ _ _ _ _ (λ is. absurd (omega (arith, is, u.if-planned.false))) (sym u.powered_at.ensures ∙ sym u.value-is ∙ w.if-powered_at.false) (sym w.climbs.ensures ∙ sym w.value-is ∙ c.if-climbs.true)
          ]
    ]

pub returns-else-climbs : goal.returns-else-climbs
unfolding stair_end linked_cells
returns-else-climbs c =
    elim c.if-powered_at.branch [
      | then-powered_at w ↦ let no : true ≡ false = sym w.if-powered_at.true ∙ sym w.value-is ∙ c.if-climbs.false in never (cc)
      | else-powered_at w ↦
          elim c.if-planned.branch [
            | then-planned u ↦ let no : false ≡ true = sym w.if-powered_at.false ∙ u.value-is ∙ search (rules, tests) in never (cc)
            | else-planned u ↦ support_plain _ _ _ _ _ (λ is. absurd (omega (arith, is, u.if-planned.false))) (sym u.powered_at.ensures ∙ sym u.value-is ∙ w.if-powered_at.false) (sym w.climbs.ensures ∙ sym w.value-is ∙ c.if-climbs.false)
          ]
    ]
