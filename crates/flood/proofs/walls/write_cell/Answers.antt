-- `write_cell` meets its contract. The loop's invariant: the bytes of the cells before and the first i of this one are written.
use native.Mathlib.Omega.{arith}
use mathlib.Core.Path.{◌≡◌, sym, ◌∙◌, ap}
use Prim.Native.Nat.{◌+◌, ◌-◌, ◌*◌, ◌≤◌}
use Rattle.room.specs.Room.{volume, moves}
use Rattle.room.specs.RoomLaws.{pos_in}
use Rattle.room.specs.MoveLaws.{move-small}
use Rattle.flood.specs.Walls.{reason_at, wall_at, byte_of, marked_in}
use Rattle.flood.specs.Flooding.{Written}
use Rattle.flood.specs.WallLaws.{place_is, place_in, wall_first, wall_next}
use borrow.Author.Rules.{rules}
use Rattle.flood.proofs.walls.write_cell.Goals as goal

pub neighbour_at-place-requires-clause-within : goal.neighbour_at-place-requires-clause-within
neighbour_at-place-requires-clause-within c = rw c.pos-at.ensures (pos_in c.args.room c.requires.good c.args.cell c.requires.cell_bound)

pub reason_at-requires : goal.reason_at-requires
unfolding moves
reason_at-requires c = λ v g. rw c.requires.obstacles_len (place_in c.args.room c.args.cell c.pos-at.ensures c.loop-i.i c.neighbour_at-place.ensures v g)

pub loop-i-preserved : goal.loop-i-preserved
unfolding moves
loop-i-preserved c =
    let ob = byte_of c.args.obstacles.now in
    let e = place_is c.args.room c.args.cell c.pos-at.ensures c.loop-i.i c.neighbour_at-place.ensures in
    wall_next c.args.room ob (marked_in c.args.reached.now) c.requires.cell_bound c.loop-i.invariant c.loop-i-test.true c.requires.cell_value _ (c.reason_at.ensures ∙ ap (reason_at ob) e)
