-- `answer_fit` meets its contract: the first V numbers of each work buffer, and the queue whole, are lent to the search, and all are cleared behind it.
use native.Mathlib.Omega.{arith}
use mathlib.Core.Path.{◌≡◌, sym, ap, ◌∙◌}
use mathlib.Core.List.{List, ◌++◌}
use Prim.Native.Nat.{ℕ, ◌≤◌}
use lib.ListN.{length, take, drop}
use Rattle.routing.specs.Answers.{task_in}
use Rattle.routing.specs.EntryLaws.{again, again_length, cleared-whole, room-searchable}
use Rattle.room_search.specs.TakeAllLaws.{told_showable}
use Rattle.room_search.specs.Routing.{graph_of, graph, searched}
use Rattle.room_search.specs.TriedMoves.{places_of}
use lib.Seq.{length-take-le}
use Rattle.basics.specs.Zeros.{cleared-to}
use Rattle.routing.proofs.astar.answer_fit.Goals as goal
use Rattle.routing.proofs.astar.answer_fit.Goals.{After-search_room-outcome}

-- what the search left in the first V numbers that were lent to it, read again from the whole buffers
module _ (c : After-search_room-outcome) where
  abbrev cells : ℕ
  cells = c.volume-cells.result

  abbrev known : List ℕ
  known = c.search_room-outcome.new.known

  abbrev previous : List ℕ
  previous = c.search_room-outcome.new.previous

  known-enough : cells ≤ length c.args.known.now
  known-enough = rw c.volume-cells.ensures c.requires.known-enough

  previous-enough : cells ≤ length c.args.previous.now
  previous-enough = rw c.volume-cells.ensures c.requires.previous-enough

  known-again : take cells (known ++ drop cells c.args.known.now) ≡ known
  known-again = again known c.args.known.now cells c.search_room-outcome.auto.known known-enough

  previous-again : take cells (previous ++ drop cells c.args.previous.now) ≡ previous
  previous-again = again previous c.args.previous.now cells c.search_room-outcome.auto.previous previous-enough

  known-long : length known ≡ cells
  known-long = c.search_room-outcome.auto.known ∙ length-take-le cells c.args.known.now known-enough

  previous-long : length previous ≡ cells
  previous-long = c.search_room-outcome.auto.previous ∙ length-take-le cells c.args.previous.now previous-enough

pub slice_bounds-search_room-end-2 : goal.slice_bounds-search_room-end-2
slice_bounds-search_room-end-2 c = let a = c.args in let p = c.requires in let v = c.volume-cells.result in let e = c.volume-cells.ensures in sym (length-take-le v a.known.now (rw e p.known-enough))

pub slice_bounds-search_room-end-4 : goal.slice_bounds-search_room-end-4
slice_bounds-search_room-end-4 c = let a = c.args in let p = c.requires in let v = c.volume-cells.result in let e = c.volume-cells.ensures in sym (length-take-le v a.previous.now (rw e p.previous-enough))

pub slice_bounds-search_room-end-6 : goal.slice_bounds-search_room-end-6
slice_bounds-search_room-end-6 c = let a = c.args in let p = c.requires in let v = c.volume-cells.result in let e = c.volume-cells.ensures in sym (length-take-le v a.classes.now (rw e p.classes-enough))

pub search_room-outcome-requires : goal.search_room-outcome-requires
search_room-outcome-requires c = let a = c.args in let p = c.requires in let e = c.volume-cells.ensures in room-searchable a.path.now a.known.now a.previous.now a.classes.now a.queue.now p e

pub slice_bounds-answer_of-end-2 : goal.slice_bounds-answer_of-end-2
slice_bounds-answer_of-end-2 c = let a = c.args in let p = c.requires in let v = c.volume-cells.result in let e = c.volume-cells.ensures in again_length c.search_room-outcome.new.known a.known.now v c.search_room-outcome.auto.known (rw e p.known-enough)

pub slice_bounds-answer_of-end-4 : goal.slice_bounds-answer_of-end-4
slice_bounds-answer_of-end-4 c = let a = c.args in let p = c.requires in let v = c.volume-cells.result in let e = c.volume-cells.ensures in again_length c.search_room-outcome.new.previous a.previous.now v c.search_room-outcome.auto.previous (rw e p.previous-enough)

pub answer_of-answer-requires-clause-shown : goal.answer_of-answer-requires-clause-shown
unfolding graph_of
answer_of-answer-requires-clause-shown c =
    let run = c.search_room-outcome in
    let a = c.args in
    let p = c.requires in
    let e = c.volume-cells.ensures in
    let T = task_in a.room a.config a.kinds.now a.start a.goal (places_of a.queue.now) in
    let long = ap length (previous-again (goal.at.answer_of-answer-requires-clause-shown c).After-search_room-outcome) ∙ previous-long (goal.at.answer_of-answer-requires-clause-shown c).After-search_room-outcome in
    let cleared = c.clear in record { good = p.good; config-good = p.config-good; kinds-long = p.kinds-long; previous-long = long ∙ e; known-long = ap length (known-again (goal.at.answer_of-answer-requires-clause-shown c).After-search_room-outcome) ∙ known-long (goal.at.answer_of-answer-requires-clause-shown c).After-search_room-outcome ∙ e; goal_in = p.goal_in; path-enough = omega (arith, p.path-enough, c.clear.auto.s) }

pub answer_of-answer-requires-clause-path_value : goal.answer_of-answer-requires-clause-path_value
unfolding graph_of
answer_of-answer-requires-clause-path_value c =
    let run = c.search_room-outcome in
    let a = c.args in
    let p = c.requires in
    let e = c.volume-cells.ensures in
    let T = task_in a.room a.config a.kinds.now a.start a.goal (places_of a.queue.now) in
    let long = ap length (previous-again (goal.at.answer_of-answer-requires-clause-path_value c).After-search_room-outcome) ∙ previous-long (goal.at.answer_of-answer-requires-clause-path_value c).After-search_room-outcome in
    let cleared = c.clear in cleared-to (sym c.clear.auto.s) c.clear.ensures

pub answer_of-answer-requires-clause-showable : goal.answer_of-answer-requires-clause-showable
unfolding graph_of
answer_of-answer-requires-clause-showable c =
    let run = c.search_room-outcome in
    let a = c.args in
    let p = c.requires in
    let e = c.volume-cells.ensures in
    let T = task_in a.room a.config a.kinds.now a.start a.goal (places_of a.queue.now) in
    let long = ap length (previous-again (goal.at.answer_of-answer-requires-clause-showable c).After-search_room-outcome) ∙ previous-long (goal.at.answer_of-answer-requires-clause-showable c).After-search_room-outcome in
    let cleared = c.clear in rw (known-again (goal.at.answer_of-answer-requires-clause-showable c).After-search_room-outcome, previous-again (goal.at.answer_of-answer-requires-clause-showable c).After-search_room-outcome) (told_showable (graph T) (searched T) run.result (known (goal.at.answer_of-answer-requires-clause-showable c).After-search_room-outcome) (previous (goal.at.answer_of-answer-requires-clause-showable c).After-search_room-outcome) (previous-long (goal.at.answer_of-answer-requires-clause-showable c).After-search_room-outcome ∙ e) c.search_room-outcome.ensures.told)

pub returns : goal.returns
returns c =
    let run = c.search_room-outcome in
    let a = c.args in
    let T = task_in a.room a.config a.kinds.now a.start a.goal (places_of a.queue.now) in
    let cleared = c.clear_work.ensures in
    let S = c.answer_of-answer.ensures.shows a.start (places_of a.queue.now) (rw (known-again (goal.at.returns c).After-search_room-outcome, previous-again (goal.at.returns c).After-search_room-outcome) c.search_room-outcome.ensures) in
    record {
      answer = S.0;
      path-is = rw c.clear.auto.s at S.1;
      known_is = cleared-whole (known (goal.at.returns c).After-search_room-outcome) a.known.now (cells (goal.at.returns c).After-search_room-outcome) c.search_room-outcome.auto.known _ cleared.0;
      previous-is = cleared-whole (previous (goal.at.returns c).After-search_room-outcome) a.previous.now (cells (goal.at.returns c).After-search_room-outcome) c.search_room-outcome.auto.previous _ cleared.1;
      classes-is = cleared-whole c.search_room-outcome.new.classes a.classes.now (cells (goal.at.returns c).After-search_room-outcome) c.search_room-outcome.auto.classes _ cleared.2;
      queue-is = cleared-to c.search_room-outcome.auto.queue cleared.3;
    }
