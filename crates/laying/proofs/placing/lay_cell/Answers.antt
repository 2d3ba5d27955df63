-- `lay_cell` meets its contract: the support first, then wire unless a repeater is planned.
use Rattle.laying.specs.PlacingLaws.{cell-planned, cell-wired}
use Rattle.laying.proofs.placing.lay_cell.Goals as goal

pub returns-then-not-planned : goal.returns-then-not-planned
returns-then-not-planned c = cell-wired _ _ _ _ c.bear.ensures c.if-not-planned.true c.lay.ensures

pub returns-else-not-planned : goal.returns-else-not-planned
returns-else-not-planned c = cell-planned _ _ _ _ c.bear.ensures c.if-not-planned.false
