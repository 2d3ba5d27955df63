-- `price` meets its contract: its two cases are the definition's.
use Rattle.room_search.specs.TryLaws.{price-laid, price-bare}
use Rattle.room_search.proofs.expand.price.Goals as goal
use Rattle.room_search.proofs.expand.price.Goals.{then-class-eq-OPEN_WITH_SUPPORT, else-class-eq-OPEN_WITH_SUPPORT}

pub returns : goal.returns
returns c =
    elim c.if-class-eq-OPEN_WITH_SUPPORT.branch [
      | then-class-eq-OPEN_WITH_SUPPORT w ↦ rw w.support-is (price-laid _ _ _ w.if-class-eq-OPEN_WITH_SUPPORT.true c.step_cost.ensures)
      | else-class-eq-OPEN_WITH_SUPPORT w ↦ rw w.support-is (price-bare _ _ _ w.if-class-eq-OPEN_WITH_SUPPORT.false c.step_cost.ensures)
    ]
