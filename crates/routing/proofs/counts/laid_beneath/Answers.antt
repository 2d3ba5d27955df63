-- `laid_beneath` meets its contract: one where Air is beneath.
use Rattle.routing.specs.TotalLaws.{laid_one, laid_none}
use mathlib.Core.Path.{sym, ◌∙◌}
use Rattle.routing.proofs.counts.laid_beneath.Goals as goal

pub returns-then-kind_beneath-eq-AIR : goal.returns-then-kind_beneath-eq-AIR
returns-then-kind_beneath-eq-AIR c = let a = c.args in laid_one a.room a.kinds.now a.cell (sym c.kind_beneath.ensures ∙ c.if-kind_beneath-eq-AIR.true)

pub returns-else-kind_beneath-eq-AIR : goal.returns-else-kind_beneath-eq-AIR
returns-else-kind_beneath-eq-AIR c = let a = c.args in laid_none a.room a.kinds.now a.cell (λ e. c.if-kind_beneath-eq-AIR.false (c.kind_beneath.ensures ∙ e))
