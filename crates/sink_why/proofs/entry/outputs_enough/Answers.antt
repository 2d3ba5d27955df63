-- `outputs_enough` meets its contract: its tests are the definition's.
use native.Mathlib.Omega.{arith}
use Rattle.sink_why.specs.WhyLaws.{short-reached, short-walls, enough-causes}
use Rattle.sink_why.proofs.entry.outputs_enough.Goals as goal

pub volume-cells-requires : goal.volume-cells-requires
volume-cells-requires c = c.requires

pub returns-then-reached-cells : goal.returns-then-reached-cells
returns-then-reached-cells c = let a = c.args in short-reached a.room a.reached a.walls a.causes (omega (arith, c.volume-cells.ensures, c.if-reached-cells.true))

pub overflow_mul-cells : goal.overflow_mul-cells
overflow_mul-cells c = record { fits = omega (arith, c.requires.few, c.volume-cells.ensures) }

pub returns-then-walls-cells : goal.returns-then-walls-cells
returns-then-walls-cells c = let a = c.args in short-walls a.room a.reached a.walls a.causes (omega (arith, c.volume-cells.ensures, c.if-reached-cells.false)) (omega (arith, c.volume-cells.ensures, c.if-walls-cells.true))

pub returns : goal.returns
returns c = let a = c.args in rw c.volume-cells.ensures (enough-causes a.room a.reached a.walls a.causes (omega (arith, c.volume-cells.ensures, c.if-reached-cells.false)) (omega (arith, c.volume-cells.ensures, c.if-walls-cells.false)))
