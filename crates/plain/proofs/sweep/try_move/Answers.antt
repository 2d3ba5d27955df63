-- `try_move` meets its contract: the move leads out of the room, or into a cell that can't be entered, or is offered.
use mathlib.Core.Path.{sym, ◌∙◌}
use Prim.Native.Nat.{◌+◌, ◌<◌, ◌^◌}
use lib.ListN.{get_or}
use native.Mathlib.Omega.{arith}
use Rattle.room.specs.MoveLaws.{small}
use Rattle.room_search.specs.GraphLaws.{price-low}
use Rattle.plain.specs.SweepingLaws.{fit-long, fit-most, from_in, into_in, move-out, move-shut, move-offered}
use Rattle.plain.proofs.sweep.try_move.Goals as goal
use Rattle.plain.proofs.sweep.try_move.Goals.{After-move_cost-step}

-- the sum that is offered fits, with 1 added
sum_fits : (c : After-move_cost-step) → c.args.cost.0 + c.move_cost-step.result.0 + 1 < 2 ^ 32
sum_fits c =
    let a = c.args in
    let S = c.requires.sweeping in
    let low = price-low a.errand.config a.m (get_or a.classes.now c.in-Some.cell 0) in
    let most = fit-most S.fit S.kept a.from (omega (arith, c.requires.from_value)) in
    omega (arith, c.move_cost-step.ensures, low, most, c.requires.from_value)

pub neighbour-requires-clause-good : goal.neighbour-requires-clause-good
neighbour-requires-clause-good c = c.requires.sweeping.fit.good

pub neighbour-requires-clause-cell_bound : goal.neighbour-requires-clause-cell_bound
neighbour-requires-clause-cell_bound c = from_in c.requires.sweeping c.args.from c.args.cost.0 c.requires.from_value c.args.m

pub neighbour-requires-clause-x_bound : goal.neighbour-requires-clause-x_bound
neighbour-requires-clause-x_bound c = let w = small c.args.m c.requires.fact in (w.x_small, w.y_small, w.z_small)

pub bounds-classes-cell : goal.bounds-classes-cell
bounds-classes-cell c =
    let a = c.args in
    omega (arith, into_in c.requires.sweeping a.from a.cost.0 c.requires.from_value a.m _ (sym c.neighbour.ensures ∙ c.in-Some.is), c.requires.sweeping.fit.classes-long)

pub returns-then-class-eq0 : goal.returns-then-class-eq0
returns-then-class-eq0 c =
    let a = c.args in
    move-shut c.requires.sweeping a.from a.cost.0 c.requires.from_value a.m _ (sym c.neighbour.ensures ∙ c.in-Some.is) c.if-class-eq0.true

pub move_cost-step-requires : goal.move_cost-step-requires
move_cost-step-requires c = c.requires.sweeping.fit.config-good.ranges

pub overflow_add-cost : goal.overflow_add-cost
overflow_add-cost c = record { fits = omega (arith, sum_fits (goal.at.overflow_add-cost c).After-move_cost-step) }

pub lower-requires-clause-cell_in_bounds : goal.lower-requires-clause-cell_in_bounds
lower-requires-clause-cell_in_bounds c =
    let a = c.args in
    let S = c.requires.sweeping in
    let long = fit-long S.fit S.kept in
    let into = into_in S a.from a.cost.0 c.requires.from_value a.m _ (sym c.neighbour.ensures ∙ c.in-Some.is) in
    (omega (arith, into, long.0), long.1 ∙ sym long.0)

pub lower-requires-clause-from_lt_max_volume : goal.lower-requires-clause-from_lt_max_volume
lower-requires-clause-from_lt_max_volume c =
    let a = c.args in
    let S = c.requires.sweeping in
    let from = from_in S a.from a.cost.0 c.requires.from_value a.m in
    (omega (arith, from, S.fit.good.few), sum_fits (goal.at.lower-requires-clause-from_lt_max_volume c).After-move_cost-step)

pub returns : goal.returns
returns c =
    let a = c.args in
    move-offered c.requires.sweeping a.from a.cost.0 c.requires.from_value a.m _ (sym c.neighbour.ensures ∙ c.in-Some.is) c.requires.fact c.if-class-eq0.false _ c.move_cost-step.ensures c.lower.ensures

pub returns-in_default : goal.returns-in_default
returns-in_default c =
    let a = c.args in
    move-out c.requires.sweeping a.from a.cost.0 c.requires.from_value a.m (sym c.neighbour.ensures ∙ c.in_default.is)
