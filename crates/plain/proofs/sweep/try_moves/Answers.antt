-- `try_moves` meets its contract. The loop's invariant: the moves before are tried.
use Rattle.room.specs.Room.{moves}
use Rattle.plain.specs.SweepingLaws.{move-listed, together, below_next, below_all}
use Rattle.plain.proofs.sweep.try_moves.Goals as goal

pub try_move-changed-requires-clause-fact : goal.try_move-changed-requires-clause-fact
unfolding moves
try_move-changed-requires-clause-fact c = move-listed c.loop-m.m-index c.loop-m-test.true

pub loop-m-preserved : goal.loop-m-preserved
unfolding moves
loop-m-preserved c = below_next _ c.loop-m-test.true (together c.loop-m.changed c.try_move-changed.result) c.loop-m.invariant c.try_move-changed.ensures

pub returns : goal.returns
returns c = below_all c.loop-m-test.false c.loop-m.invariant
