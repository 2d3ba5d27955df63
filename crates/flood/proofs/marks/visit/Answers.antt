-- `visit` meets its contract. The loop's invariant: the cells that the first k moves lead to are met.
use native.Mathlib.Omega.{arith}
use Prim.Native.Nat.{◌-◌, ◌≤◌}
use mathlib.Core.Path.{◌≡◌, sym, ◌∙◌}
use Rattle.room.specs.Room.{moves}
use Rattle.room.specs.RoomLaws.{pos_in}
use Rattle.room.specs.MoveLaws.{move-small}
use Rattle.flood.specs.Walls.{byte_of}
use Rattle.flood.specs.Flooding.{Met, OpenBy}
use Rattle.flood.specs.WallLaws.{place_is, place_in}
use Rattle.flood.specs.FloodLaws.{visiting_none, visiting_next}
use borrow.Author.Rules.{rules}
use Rattle.flood.proofs.marks.visit.Goals as goal

pub neighbour_at-place-requires-clause-within : goal.neighbour_at-place-requires-clause-within
neighbour_at-place-requires-clause-within c = rw c.pos-at.ensures (pos_in c.args.room c.requires.good c.args.from c.requires.from_bound)

pub neighbour_at-place-requires-clause-x_bound : goal.neighbour_at-place-requires-clause-x_bound
unfolding moves
neighbour_at-place-requires-clause-x_bound c = let m = move-small _ c.loop-m-test.true in (m.x_small, m.y_small, m.z_small)

pub meet_place-last-requires-clause-by_index : goal.meet_place-last-requires-clause-by_index
unfolding moves
meet_place-last-requires-clause-by_index c =
    let l = c.loop-m.invariant.long ∙ c.requires.reached_len in
    λ v g. rw l (place_in c.args.room c.args.from c.pos-at.ensures c.loop-m.m-index c.neighbour_at-place.ensures v g)

pub loop-m-preserved : goal.loop-m-preserved
unfolding moves
loop-m-preserved c =
    let e = place_is c.args.room c.args.from c.pos-at.ensures c.loop-m.m-index c.neighbour_at-place.ensures in
    visiting_next c.loop-m.invariant (rw e at c.meet_place-last.ensures)
