-- `facing_by` meets its contract: its tests are those of the definition.
use mathlib.Core.Path.{sym, ◌∙◌}
use borrow.Author.Tests.{eq-eqb, ne_eqb}
use Rattle.repeaters.specs.Repeaters.{facing_by}
use Rattle.repeaters.proofs.candidates.facing_by.Goals as goal

pub returns-then-p-q : goal.returns-then-p-q
unfolding facing_by
returns-then-p-q c = rw (ne_eqb _ _ c.if-p-q.true)

pub returns-then-steps_by : goal.returns-then-steps_by
unfolding facing_by
returns-then-steps_by c = rw (eq-eqb _ _ c.if-p-q.false, sym c.steps_by.ensures ∙ c.if-steps_by.true)

pub returns-then-steps_by-2 : goal.returns-then-steps_by-2
unfolding facing_by
returns-then-steps_by-2 c = rw (eq-eqb _ _ c.if-p-q.false, sym c.steps_by.ensures ∙ c.if-steps_by.false, sym c.steps_by-2.ensures ∙ c.if-steps_by-2.true)

pub returns-then-steps_by-3 : goal.returns-then-steps_by-3
unfolding facing_by
returns-then-steps_by-3 c = rw (eq-eqb _ _ c.if-p-q.false, sym c.steps_by.ensures ∙ c.if-steps_by.false, sym c.steps_by-2.ensures ∙ c.if-steps_by-2.false, sym c.steps_by-3.ensures ∙ c.if-steps_by-3.true)

pub returns-then-steps_by-4 : goal.returns-then-steps_by-4
unfolding facing_by
returns-then-steps_by-4 c = rw (eq-eqb _ _ c.if-p-q.false, sym c.steps_by.ensures ∙ c.if-steps_by.false, sym c.steps_by-2.ensures ∙ c.if-steps_by-2.false, sym c.steps_by-3.ensures ∙ c.if-steps_by-3.false, sym c.steps_by-4.ensures ∙ c.if-steps_by-4.true)

pub returns : goal.returns
unfolding facing_by
returns c = rw (eq-eqb _ _ c.if-p-q.false, sym c.steps_by.ensures ∙ c.if-steps_by.false, sym c.steps_by-2.ensures ∙ c.if-steps_by-2.false, sym c.steps_by-3.ensures ∙ c.if-steps_by-3.false, sym c.steps_by-4.ensures ∙ c.if-steps_by-4.false)
