-- `Work::expand` meets its contract.
use Rattle.std.proofs.Common.{arith, ◌+◌, ◌*◌, drop}
use Rattle.std.proofs.lemmas.Result.{err_from_is_err_and}
use borrow.Author.Tests.{not-false}
use Rattle.room.specs.Room.{moves, move_at}
use Rattle.room_search.specs.TriedMoves.{column}
use Rattle.room_search.specs.AlongLaws.{along-next, along-stop, columns_next, columns_split, columns_small, columns_all}
use Rattle.room_search.specs.IdleLaws.{side-passed}
use Rattle.room_search.proofs.Work.expand.Goals as goal
use Rattle.room_search.proofs.Work.expand.Goals.{then-not-side_idle+in_ok-try_column, else-not-side_idle}

pub side_idle-requires-clause-x_bound : goal.side_idle-requires-clause-x_bound
side_idle-requires-clause-x_bound c = rw c.side_move-m.ensures (columns_small _ c.loop-side-test.true)

pub try_column-requires-clause-x_bound : goal.try_column-requires-clause-x_bound
try_column-requires-clause-x_bound c = rw c.side_move-m.ensures (columns_small _ c.loop-side-test.true)

pub returns-in_err-try_column-clause-came : goal.returns-in_err-try_column-clause-came
returns-in_err-try_column-clause-came c =
    let k = c.loop-side.side in let p = err_from_is_err_and c.from_residual.result c.from_residual.ensures.1 in
    rw p.1 (rw (columns_split k c.loop-side-test.true) at (along-stop _ _ _ c.loop-side.invariant (column (move_at (k * 3))) (drop ((k + 1) * 3) moves)
    (rw c.side_move-m.ensures at c.in_err-try_column.ensures.came)))

pub loop-side-preserved : goal.loop-side-preserved
loop-side-preserved c =
    let k = c.loop-side.side in let e = columns_next k c.loop-side-test.true in
    elim c.if-not-side_idle.branch [
      | then-not-side_idle+in_ok-try_column w ↦ rw w.self-is (rw e at (along-next _ _ _ c.loop-side.invariant (column (move_at (k * 3))) w.in_ok-try_column.ensures.kept
          (rw c.side_move-m.ensures at w.in_ok-try_column.ensures.came)))
      | else-not-side_idle w ↦ rw w.self-is (rw e at (side-passed (move_at (k * 3)) (rw c.side_move-m.ensures at (c.side_idle.ensures.told (not-false _ w.if-not-side_idle.false-raw))) c.loop-side.invariant))
    ]

pub returns-clause-came : goal.returns-clause-came
returns-clause-came c = rw (columns_all c.loop-side.side (omega arith)) at c.loop-side.invariant.tried
