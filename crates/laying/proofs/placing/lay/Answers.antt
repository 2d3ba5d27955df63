-- `lay` meets its contract: the test is the definition's.
use Rattle.laying.specs.PlacingLaws.{laid-air, laid-full}
use Rattle.laying.proofs.placing.lay.Goals as goal

pub returns-then-kinds-cell-eq-AIR : goal.returns-then-kinds-cell-eq-AIR
returns-then-kinds-cell-eq-AIR c = laid-air _ _ _ c.if-kinds-cell-eq-AIR.true c.place.ensures

pub returns-else-kinds-cell-eq-AIR : goal.returns-else-kinds-cell-eq-AIR
returns-else-kinds-cell-eq-AIR c = laid-full _ _ _ c.if-kinds-cell-eq-AIR.false
