-- `trace_into` meets its contract. The loop's invariant: `left` cells are still to be written, and the others stand behind them.
use native.Mathlib.Omega.{arith}
use mathlib.Core.Path.{◌≡◌, refl}
use Rattle.trace.specs.TraceLaws.{writing_none, writing_first, writing_next, writing_all}
use Rattle.trace.proofs.trace_into.Goals as goal

pub loop-left-init : goal.loop-left-init
loop-left-init c = writing_none _ _ c.requires.count_value c.requires.to_in_bounds c.requires.count_in_bounds refl

pub overflow_cast-path : goal.overflow_cast-path
overflow_cast-path c = record { fits = omega (arith, c.loop-left.invariant.inside, c.requires.previous_len_bound) }

pub bounds-path-left : goal.bounds-path-left
bounds-path-left c = omega (arith, c.loop-left.invariant.fits, c.loop-left-test.true)

pub bounds-previous-cell : goal.bounds-previous-cell
bounds-previous-cell c = c.loop-left.invariant.inside

pub overflow_cast-cell : goal.overflow_cast-cell
overflow_cast-cell c = record { fits = omega (arith, c.shared_slice_known-1.given c.loop-left.cell) }

pub loop-left-preserved-then-before-ne0 : goal.loop-left-preserved-then-before-ne0
loop-left-preserved-then-before-ne0 c = writing_next c.loop-left.invariant c.loop-left-test.true c.requires.previous_inside c.if-before-ne0.true

pub loop-left-preserved : goal.loop-left-preserved
loop-left-preserved c = writing_first c.loop-left.invariant c.loop-left-test.true c.if-before-ne0.false

pub returns : goal.returns
returns c = let z : c.loop-left.left ≡ 0 = omega (arith, c.loop-left-test.false) in writing_all (rw z at c.loop-left.invariant)
