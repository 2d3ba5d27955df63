-- `meet` meets its contract: a cell that was not reached has a place in the line.
use native.Mathlib.Omega.{arith}
use mathlib.Core.Path.{refl, ◌≡◌}
use Prim.Native.Nat.{ℕ}
use Rattle.flood.specs.FloodLaws.{held-most, met-nothing, line-fits, met-now}
use borrow.Author.Rules.{rules}
use Rattle.flood.proofs.marks.meet.Goals as goal

pub returns-then-reached-cell-ne0 : goal.returns-then-reached-cell-ne0
returns-then-reached-cell-ne0 c = met-nothing c.requires.held (λ (w : ℕ). w ≡ c.args.cell) (λ w e. rw e (omega (arith, c.if-reached-cell-ne0.true)))

pub offset_bounds-line-end : goal.offset_bounds-line-end
offset_bounds-line-end c = record { fits = omega (arith, held-most c.requires.held, c.requires.reached_len_bound) }

pub bounds-line-end : goal.bounds-line-end
bounds-line-end c = line-fits c.requires.held _ c.requires.cell_in_bounds c.if-reached-cell-ne0.false

pub overflow_add-result : goal.overflow_add-result
overflow_add-result c = record { fits = omega (arith, held-most c.requires.held, c.requires.reached_len_bound) }

pub returns : goal.returns
returns c = met-now c.requires.held _ c.requires.cell_in_bounds c.if-reached-cell-ne0.false (λ (w : ℕ). w ≡ c.args.cell) refl (λ w e. e)
