-- `Labelled::cell_agrees` meets its contract.
use Rattle.std.proofs.Common.{refl}
use Rattle.basics.specs.Tests.{test-passes}
use Rattle.room.specs.RoomLaws.{pos_in}
use Rattle.room.specs.MoveLaws.{move-small}
use Rattle.relaxed.specs.CheckLaws.{moves-none, moves_next, cell_unlabelled, cell_fails, cell_agrees}
use Rattle.relaxed.proofs.check.Labelled.cell_agrees.Goals as goal

pub returns-then-label-eq0 : goal.returns-then-label-eq0
returns-then-label-eq0 c = cell_unlabelled c.if-label-eq0.true _

pub loop-k-init : goal.loop-k-init
loop-k-init c = moves-none

pub move_agrees-requires-clause-within : goal.move_agrees-requires-clause-within
move_agrees-requires-clause-within c = rw c.pos-at.ensures (pos_in _ c.args.self.now.fits.good _ c.requires)

pub move_agrees-requires-clause-small_move : goal.move_agrees-requires-clause-small_move
move_agrees-requires-clause-small_move c = let small = move-small c.loop-k.k c.loop-k-test.true in rw c.move_at.ensures (small.x_small, small.y_small, small.z_small)

pub returns-then-not-move_agrees : goal.returns-then-not-move_agrees
returns-then-not-move_agrees c = cell_fails

pub loop-k-preserved : goal.loop-k-preserved
loop-k-preserved c = moves_next c.loop-k.invariant (rw c.move_at.ensures at c.move_agrees.ensures) (test-passes refl c.if-not-move_agrees.false-raw)

pub returns : goal.returns
returns c = cell_agrees c.pos-at.ensures refl c.loop-k.invariant c.loop-k-test.false _
