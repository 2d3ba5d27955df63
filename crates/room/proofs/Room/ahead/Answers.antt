-- `Room::ahead` is safe: a facing's flat move is one of the moves.
use Rattle.room.specs.MoveLaws.{small, facing_in}
use Rattle.room.proofs.Room.ahead.Goals as goal

pub neighbour-requires-clause-x_bound : goal.neighbour-requires-clause-x_bound
neighbour-requires-clause-x_bound c =
    let s = small _ (facing_in c.args.facing) in
    rw c.facing_move.ensures (s.x_small, s.y_small, s.z_small)
