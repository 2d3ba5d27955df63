-- `settle` meets its contract. The loop's invariant: ways of as many steps as sweeps were made are beaten, and the last sweep changed something, or
-- nothing gets cheaper. The sum of known costs falls.
use native.Mathlib.Omega.{arith}
use Rattle.plain.specs.SweepingLaws.{fit-long, going-first, going_next, going_less, going-fits, going_done}
use Rattle.plain.proofs.sweep.settle.Goals as goal

pub bounds-known-first : goal.bounds-known-first
bounds-known-first c = let p = c.requires in omega (arith, p.fit.start_in, p.known-long, c.clear.auto.s)

pub loop-changed-init : goal.loop-changed-init
loop-changed-init c = going-first c.requires c.clear.ensures c.clear-2.ensures

pub sweep-changed-requires : goal.sweep-changed-requires
sweep-changed-requires c = record { fit = c.requires.fit; kept = c.loop-changed.invariant.kept }

pub overflow_add-sweeps : goal.overflow_add-sweeps
overflow_add-sweeps c = let F = c.requires.fit in let A = rw c.loop-changed-test.true at c.loop-changed.invariant in let h = going-fits A in record { fits = omega (arith, h, (fit-long F A.kept).0, F.good.few) }

pub loop-changed-smaller : goal.loop-changed-smaller
loop-changed-smaller c = rw c.loop-changed-test.true (going_less c.sweep-changed.ensures)

pub loop-changed-preserved : goal.loop-changed-preserved
loop-changed-preserved c = going_next (rw c.loop-changed-test.true at c.loop-changed.invariant) c.sweep-changed.ensures

pub returns : goal.returns
returns c = going_done c.loop-changed-test.false c.loop-changed.invariant
