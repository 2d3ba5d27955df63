-- `trace_length` meets its contract. The loop's invariant: n cells are counted, and those that lead to `cell` are left.
use native.Mathlib.Omega.{arith}
use lib.ListN.{length}
use mathlib.Core.Path.{◌≡◌, ◌∙◌}
use Rattle.trace.specs.TraceLaws.{counting_none, counting_start, counting_next, counting_all}
use Rattle.trace.proofs.trace_length.Goals as goal

pub loop-n-init : goal.loop-n-init
loop-n-init c = counting_none c.requires.to_in_bounds

pub bounds-previous-cell : goal.bounds-previous-cell
bounds-previous-cell c = c.loop-n.invariant.inside

pub returns-then-before-eq0 : goal.returns-then-before-eq0
returns-then-before-eq0 c = counting_start c.loop-n.invariant c.loop-n-test.true c.if-before-eq0.true

pub overflow_cast-cell : goal.overflow_cast-cell
overflow_cast-cell c = record { fits = omega (arith, c.shared_slice_known-1.given c.loop-n.cell) }

pub loop-n-preserved : goal.loop-n-preserved
loop-n-preserved c = counting_next c.loop-n.invariant c.requires.previous_inside c.loop-n-test.true c.if-before-eq0.false

pub returns : goal.returns
returns c = let end : length c.args.previous.now ≡ c.loop-n.n = omega arith in end ∙ counting_all c.loop-n.invariant c.loop-n-test.false
