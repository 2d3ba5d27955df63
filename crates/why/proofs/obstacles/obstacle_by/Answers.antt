-- `obstacle_by` meets its contract: the definition, by cases of its tests.
use mathlib.Core.Path.{sym, ◌∙◌}
use borrow.Author.Tests.{eq-eqb, ne_eqb}
use Rattle.why.specs.Telling.{obstacle_by}
use borrow.Author.Rules.{rules}
use Rattle.why.proofs.obstacles.obstacle_by.Goals as goal

pub returns-then-class-ne0 : goal.returns-then-class-ne0
unfolding obstacle_by
returns-then-class-ne0 c = rw (ne_eqb _ 0 c.if-class-ne0.true)

pub returns-then-routeable_kind : goal.returns-then-routeable_kind
unfolding obstacle_by
returns-then-routeable_kind c = rw (eq-eqb _ 0 c.if-class-ne0.false, sym c.routeable_kind.ensures ∙ c.if-routeable_kind.true)

pub returns-else-routeable_kind : goal.returns-else-routeable_kind
unfolding obstacle_by
returns-else-routeable_kind c = rw (eq-eqb _ 0 c.if-class-ne0.false, sym c.routeable_kind.ensures ∙ c.if-routeable_kind.false)
