-- `shut_goals` meets its contract. The loop's invariant: but for joinable cells from here on, and the cells above them, the bytes say what is seen.
use Prim.Native.Nat.{◌<◌}
use native.Mathlib.Omega.{arith}
use Rattle.room.specs.Room.{volume}
use Rattle.relaxed.specs.OpeningLaws.{shut-next, shut-same, shut-all}
use Rattle.relaxed.proofs.opening.shut_goals.Goals as goal
use Rattle.relaxed.proofs.opening.shut_goals.Goals.{else-mark-eq-MARKED, then-mark-eq-MARKED}

pub loop-cell-init : goal.loop-cell-init
loop-cell-init c = c.requires.shut_below

pub refresh-requires-clause-world_fits : goal.refresh-requires-clause-world_fits
refresh-requires-clause-world_fits c =
    c.requires.world_fits

pub refresh-requires-clause-classes_len : goal.refresh-requires-clause-classes_len
refresh-requires-clause-classes_len c =
    c.loop-cell.invariant.long

pub refresh-requires-clause-cell_bound : goal.refresh-requires-clause-cell_bound
refresh-requires-clause-cell_bound c =
    omega (arith, c.loop-cell-test.true, c.requires.joinable_len)

pub loop-cell-preserved : goal.loop-cell-preserved
loop-cell-preserved c =
    let round = c.loop-cell.invariant in
    let inside : c.loop-cell.cell < volume c.args.ground.room = omega (arith, c.loop-cell-test.true, c.requires.joinable_len) in
    elim c.if-mark-eq-MARKED.branch [ then-mark-eq-MARKED w ↦ rw w.classes-is (shut-next _ _ c.requires.world_fits.good _ _ _ _ round inside w.refresh.ensures) | else-mark-eq-MARKED w ↦ rw w.classes-is (shut-same _ _ c.requires.world_fits.good _ _ _ _ round w.if-mark-eq-MARKED.false) ]

pub returns : goal.returns
returns c = shut-all _ _ c.requires.world_fits.good _ _ _ _ c.loop-cell.invariant (omega (arith, c.loop-cell-test.false, c.requires.joinable_len))
