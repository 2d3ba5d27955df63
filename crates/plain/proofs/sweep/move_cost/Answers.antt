-- `move_cost` meets its contract: its two cases are the definition's.
use native.Mathlib.Omega.{arith}
use Rattle.room.specs.UnitLaws.{dearest-most}
use Rattle.room_search.specs.GraphLaws.{price-low}
use Rattle.plain.specs.SweepingLaws.{cost-laid, cost-bare}
use Rattle.plain.proofs.sweep.move_cost.Goals as goal

pub overflow_add-result : goal.overflow_add-result
overflow_add-result c =
    let a = c.args in
    let laid = cost-laid a.config a.m a.class _ c.if-class-eq2.true c.step_cost-step.ensures in
    record { fits = omega (arith, price-low a.config a.m a.class, dearest-most c.requires, laid) }

pub returns-then-class-eq2 : goal.returns-then-class-eq2
returns-then-class-eq2 c =
    let a = c.args in
    cost-laid a.config a.m a.class _ c.if-class-eq2.true c.step_cost-step.ensures

pub returns-else-class-eq2 : goal.returns-else-class-eq2
returns-else-class-eq2 c =
    let a = c.args in
    cost-bare a.config a.m a.class _ c.if-class-eq2.false c.step_cost-step.ensures
