-- `Work::try_beside` meets its contract.
use Rattle.std.proofs.Common.{[], ◌∷◌, ◌+◌, drop}
use Rattle.std.proofs.lemmas.Result.{err_from_is_err_and}
use Rattle.room.specs.Room.{by}
use Rattle.room_search.specs.TriedMoves.{column}
use Rattle.room_search.specs.AlongLaws.{along-next, along-stop, column-next, column-split}
use Rattle.room_search.proofs.Work.try_beside.Goals as goal

pub returns-in_err-try_move-clause-came : goal.returns-in_err-try_move-clause-came
returns-in_err-try_move-clause-came c =
    let a = c.args in let y = c.loop-y.y in let p = err_from_is_err_and c.from_residual.result c.from_residual.ensures.1 in
    rw p.1 (rw (column-split a.m y c.loop-y-test.true) at (along-stop _ _ _ c.loop-y.invariant (by a.m.x y a.m.z ∷ []) (drop (y + 1) (column a.m)) c.in_err-try_move.ensures.came))

pub loop-y-preserved : goal.loop-y-preserved
loop-y-preserved c =
    let a = c.args in let y = c.loop-y.y in
    rw (column-next a.m y c.loop-y-test.true) at (along-next _ _ _ c.loop-y.invariant (by a.m.x y a.m.z ∷ []) c.in_ok-try_move.ensures.kept c.in_ok-try_move.ensures.came)
