-- `Search::meet` meets its contract: a cell that was not reached has a place in the line.
use Rattle.std.proofs.Common.{arith, refl}
use Rattle.repeaters.specs.RootLaws.{held-most, met-before, line-fits, line-put, met-now}
use Rattle.repeaters.proofs.Search.meet.Goals as goal

pub returns-then-self-cell-ne0 : goal.returns-then-self-cell-ne0
returns-then-self-cell-ne0 c = record { parents_is = refl; line_is = refl; met = met-before c.args.self.now.held _ _ c.if-self-cell-ne0.true }

pub offset_bounds-self-reached : goal.offset_bounds-self-reached
offset_bounds-self-reached c = let s = c.args.self.now in record { fits = omega (arith, held-most s.held, s.few) }

pub bounds-self-reached : goal.bounds-self-reached
bounds-self-reached c = line-fits c.args.self.now.held _ _ c.requires.from_in_bounds c.requires.cell_in_bounds c.if-self-cell-ne0.false

pub invariant_of-self : goal.invariant_of-self
invariant_of-self c = record { held = line-put c.args.self.now.held c.args.cell; few = c.args.self.now.few }

pub overflow_add-self-2 : goal.overflow_add-self-2
overflow_add-self-2 c = let s = c.args.self.now in record { fits = omega (arith, held-most s.held, s.few) }

pub invariant_of-self-2 : goal.invariant_of-self-2
invariant_of-self-2 c =
    let s = c.args.self.now in
    let M = met-now s.held _ _ c.requires.from_in_bounds c.requires.cell_in_bounds c.if-self-cell-ne0.false in
    record { held = M.held; few = omega (arith, M.long, s.few) }

pub returns : goal.returns
returns c = record { parents_is = refl; line_is = refl; met = met-now c.args.self.now.held _ _ c.requires.from_in_bounds c.requires.cell_in_bounds c.if-self-cell-ne0.false }
