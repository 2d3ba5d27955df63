-- `Work::take_one` meets its contract: each return is one outcome of a taking.
use Rattle.std.proofs.Common.{arith, refl}
use Rattle.room_search.specs.TakingLaws.{taken, left-inside, left-known, able, taking-goal, taking-limit, taking-full, taking-on}
use Rattle.room_search.proofs.Work.take_one.Goals as goal

pub returns-then-cell-field-clause-came : goal.returns-then-cell-field-clause-came
returns-then-cell-field-clause-came c =
    taking-goal c.args.expanded.0 c.requires.takeable (taken c.leave-cell.ensures refl refl c.leave-cell.auto.queue refl) c.if-cell-field.true

pub returns-then-field-expanded-clause-came : goal.returns-then-field-expanded-clause-came
returns-then-field-expanded-clause-came c =
    taking-limit c.args.expanded.0 c.requires.takeable (taken c.leave-cell.ensures refl refl c.leave-cell.auto.queue refl) c.if-cell-field.false c.if-field-expanded.true

pub offset_bounds-self-cell : goal.offset_bounds-self-cell
offset_bounds-self-cell c = record { fits = omega (arith, left-inside c.requires.takeable c.leave-cell.ensures, c.args.field.now.fits.good.few) }

pub bounds-self-cell : goal.bounds-self-cell
bounds-self-cell c = omega (arith, left-inside c.requires.takeable c.leave-cell.ensures, c.requires.takeable.known-long)

pub overflow_sub-cost : goal.overflow_sub-cost
overflow_sub-cost c = left-known c.requires.takeable c.leave-cell.ensures

pub expand-requires : goal.expand-requires
expand-requires c =
    able c.args.expanded.0 c.requires.takeable (taken c.leave-cell.ensures refl refl c.leave-cell.auto.queue refl) _ refl
    (rw c.spot.ensures (record { inside = left-inside c.requires.takeable c.leave-cell.ensures; is = refl }))

pub returns-in-Ok-clause-came : goal.returns-in-Ok-clause-came
returns-in-Ok-clause-came c =
    taking-on c.args.expanded.0 c.requires.takeable (taken c.leave-cell.ensures refl refl c.leave-cell.auto.queue refl) c.if-cell-field.false c.if-field-expanded.false
    _ (rw c.spot.ensures) refl c.in-Ok.ensures.came

pub returns-in-Err-clause-came : goal.returns-in-Err-clause-came
returns-in-Err-clause-came c =
    taking-full c.args.expanded.0 c.requires.takeable (taken c.leave-cell.ensures refl refl c.leave-cell.auto.queue refl) c.if-cell-field.false c.if-field-expanded.false
    _ (rw c.spot.ensures) refl c.in-Err.ensures.came
