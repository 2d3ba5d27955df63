-- `horizontal_neighbors` meets its contract: each round marks where one direction leads.
use mathlib.Core.Path.{ap, ◌∙◌}
use Prim.Native.Nat.{◌+◌, ◌*◌}
use native.Mathlib.Omega.{arith}
use Rattle.room.specs.Room.{by, neighbour}
use Rattle.room.specs.RoomLaws.{pos_in}
use Rattle.room.specs.MoveLaws.{leads, move-small}
use Rattle.routing_resources.specs.MarkLaws.{marking-none, marking-on, marking-all}
use Rattle.routing_resources.specs.Marks.{marked_by}
use Rattle.routing_resources.specs.Resources.{directions, is_neighbour}
use Rattle.routing_resources.proofs.horizontal_neighbors.Goals as goal
use Rattle.routing_resources.proofs.horizontal_neighbors.Invariants.{leads_to, four, beside, in_threes}

pub pos-p-requires : goal.pos-p-requires
pos-p-requires c = c.requires.good

pub loop-k-init : goal.loop-k-init
loop-k-init c = marking-none _ _ _

pub move_at-requires : goal.move_at-requires
move_at-requires c = omega (arith, c.loop-k-test.true, c.part-part.ensures.small)

pub neighbour_at-place-requires-clause-good : goal.neighbour_at-place-requires-clause-good
neighbour_at-place-requires-clause-good c =
    let good = c.requires.good in
    let s = move-small (3 * c.loop-k.k + c.part-part.result) (omega (arith, c.loop-k-test.true, c.part-part.ensures.small)) in good

pub neighbour_at-place-requires-clause-within : goal.neighbour_at-place-requires-clause-within
neighbour_at-place-requires-clause-within c =
    let good = c.requires.good in
    let s = move-small (3 * c.loop-k.k + c.part-part.result) (omega (arith, c.loop-k-test.true, c.part-part.ensures.small)) in rw c.pos-p.ensures (pos_in _ good _ c.requires.cell_bound)

pub neighbour_at-place-requires-clause-x_bound : goal.neighbour_at-place-requires-clause-x_bound
neighbour_at-place-requires-clause-x_bound c =
    let good = c.requires.good in
    let s = move-small (3 * c.loop-k.k + c.part-part.result) (omega (arith, c.loop-k-test.true, c.part-part.ensures.small)) in rw c.move_at.ensures (s.x_small, s.y_small, s.z_small)

pub put_mark-requires : goal.put_mark-requires
unfolding neighbour
put_mark-requires c =
    λ v e.
    let led = leads _ c.args.cell c.move_at.result v (rw (c.neighbour_at-place.ensures, c.pos-p.ensures) at e) in
    rw (c.loop-k.invariant.long, c.requires.marks_len) led.inside

pub loop-k-preserved : goal.loop-k-preserved
unfolding directions
loop-k-preserved c =
    let args = c.args in
    let loop = c.loop-k in
    let more = c.loop-k-test.true in
    let move = c.move_at.ensures ∙ in_threes loop.k c.part-part.result more in
    marking-on (leads_to _ _) _ loop.invariant (by 0 0 0) _ move more (c.put_mark.ensures ∙ rw c.neighbour_at-place.ensures)

pub returns : goal.returns
returns c = marking-all (leads_to _ _) _ c.loop-k.invariant (four _ _ c.loop-k-test.false) ∙ rw c.pos-p.ensures (beside _ _ _ _) ∙ ap (λ r. marked_by (is_neighbour c.args.room c.args.cell r) c.args.marks.now) c.part-part.ensures.value
