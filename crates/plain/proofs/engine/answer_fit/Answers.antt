-- `answer_fit` meets its contract: the first V numbers of each work buffer are lent to the sweeps, and all are cleared behind them.
use mathlib.Core.Path.{◌≡◌, sym}
use mathlib.Core.List.{List, ◌++◌}
use Prim.Native.Nat.{ℕ}
use native.Mathlib.Omega.{arith}
use lib.ListN.{take, drop}
use lib.Seq.{length-take-le}
use Rattle.basics.specs.Zeros.{cleared-to}
use Rattle.routing.specs.EntryLaws.{again, again_length, cleared-whole}
use Rattle.plain.specs.PromiseLaws.{settled-inside, settled-known, room-ready, fitted}
use Rattle.plain.proofs.engine.answer_fit.Goals as goal
use Rattle.plain.proofs.engine.answer_fit.Goals.{After-settle_room}

-- what the sweeps left in the first V numbers that were lent to them, read again from the whole buffers
module _ (found : After-settle_room) where
  abbrev cells : ℕ
  cells = found.volume-cells.result

  abbrev known : List ℕ
  known = found.settle_room.new.known

  abbrev previous : List ℕ
  previous = found.settle_room.new.previous

  known-again : take cells (known ++ drop cells found.args.known.now) ≡ known
  known-again = again known found.args.known.now cells found.settle_room.auto.known (omega (arith, found.volume-cells.ensures, found.requires.known-enough))

  previous-again : take cells (previous ++ drop cells found.args.previous.now) ≡ previous
  previous-again = again previous found.args.previous.now cells found.settle_room.auto.previous (omega (arith, found.volume-cells.ensures, found.requires.previous-enough))

pub slice_bounds-settle_room-end-2 : goal.slice_bounds-settle_room-end-2
slice_bounds-settle_room-end-2 c = let v = c.volume-cells in sym (length-take-le v.result c.args.known.now (omega (arith, v.ensures, c.requires.known-enough)))

pub slice_bounds-settle_room-end-4 : goal.slice_bounds-settle_room-end-4
slice_bounds-settle_room-end-4 c = let v = c.volume-cells in sym (length-take-le v.result c.args.previous.now (omega (arith, v.ensures, c.requires.previous-enough)))

pub slice_bounds-settle_room-end-6 : goal.slice_bounds-settle_room-end-6
slice_bounds-settle_room-end-6 c = let v = c.volume-cells in sym (length-take-le v.result c.args.classes.now (omega (arith, v.ensures, c.requires.classes-enough)))

pub settle_room-requires : goal.settle_room-requires
settle_room-requires c = room-ready c.requires c.volume-cells.ensures

pub slice_bounds-answer_of-end-2 : goal.slice_bounds-answer_of-end-2
slice_bounds-answer_of-end-2 c = let v = c.volume-cells in let f = c.settle_room in again_length f.new.known c.args.known.now v.result f.auto.known (omega (arith, v.ensures, c.requires.known-enough))

pub slice_bounds-answer_of-end-4 : goal.slice_bounds-answer_of-end-4
slice_bounds-answer_of-end-4 c = let v = c.volume-cells in let f = c.settle_room in again_length f.new.previous c.args.previous.now v.result f.auto.previous (omega (arith, v.ensures, c.requires.previous-enough))

pub answer_of-answer-requires-clause-goal_in_bounds : goal.answer_of-answer-requires-clause-goal_in_bounds
answer_of-answer-requires-clause-goal_in_bounds c =
    let p = c.requires in
    let S = c.settle_room.ensures in
    let I = settled-inside S in
    let cleared = c.clear in (rw (previous-again (goal.at.answer_of-answer-requires-clause-goal_in_bounds c).After-settle_room, I.0) p.posed.goal_in, rw (previous-again (goal.at.answer_of-answer-requires-clause-goal_in_bounds c).After-settle_room, I.0) p.posed.good.few, rw (known-again (goal.at.answer_of-answer-requires-clause-goal_in_bounds c).After-settle_room, previous-again (goal.at.answer_of-answer-requires-clause-goal_in_bounds c).After-settle_room, I.0) (settled-known S), rw (previous-again (goal.at.answer_of-answer-requires-clause-goal_in_bounds c).After-settle_room, I.0) (omega (arith, p.path-enough, cleared.auto.s)))

pub answer_of-answer-requires-clause-previous_inside : goal.answer_of-answer-requires-clause-previous_inside
answer_of-answer-requires-clause-previous_inside c =
    let p = c.requires in
    let S = c.settle_room.ensures in
    let I = settled-inside S in
    let cleared = c.clear in rw (previous-again (goal.at.answer_of-answer-requires-clause-previous_inside c).After-settle_room) I.1

pub answer_of-answer-requires-clause-path_value : goal.answer_of-answer-requires-clause-path_value
answer_of-answer-requires-clause-path_value c =
    let p = c.requires in
    let S = c.settle_room.ensures in
    let I = settled-inside S in
    let cleared = c.clear in cleared-to (sym cleared.auto.s) cleared.ensures

pub returns : goal.returns
returns c =
    let a = c.args in
    let S = c.settle_room.ensures in
    let run = c.settle_room in
    let cleared = c.clear_work.ensures in
    let T = c.answer_of-answer.ensures in
    fitted S (rw (known-again (goal.at.returns c).After-settle_room, previous-again (goal.at.returns c).After-settle_room) at T) c.clear.auto.s
    (cleared-whole (known (goal.at.returns c).After-settle_room) a.known.now (cells (goal.at.returns c).After-settle_room) run.auto.known _ cleared.0)
    (cleared-whole (previous (goal.at.returns c).After-settle_room) a.previous.now (cells (goal.at.returns c).After-settle_room) run.auto.previous _ cleared.1)
    (cleared-whole run.new.classes a.classes.now (cells (goal.at.returns c).After-settle_room) run.auto.classes _ cleared.2)
