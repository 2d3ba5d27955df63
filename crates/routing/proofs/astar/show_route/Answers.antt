-- `show_route` meets its contract: the path is written, the goal's known cost and the path's totals are told.
use native.Mathlib.Omega.{arith}
use mathlib.Core.Path.{◌≡◌, sym, ap, ◌∙◌}
use mathlib.Core.List.{List, []}
use Prim.Native.Nat.{ℕ, ◌≤◌}
use native.Mathlib.Numerals.{sub-one}
use lib.ListN.{length, get_or, take}
use lib.Seq.{take_at, length-take-le}
use Rattle.trace.specs.TraceLaws.{trace-short}
use Rattle.routing.specs.Answers.{route_in}
use Rattle.routing.specs.Entry.{traced}
use Rattle.routing.specs.EntryLaws.{traced_countable}
use Rattle.routing.proofs.astar.show_route.Goals as goal
use Rattle.routing.proofs.astar.show_route.Goals.{After-path_to-length}

-- the path as it stands in the buffer, and as its front is lent on
module _ (c : After-path_to-length) where
  abbrev cells : List ℕ
  cells = traced c.args.previous.now c.args.goal

  abbrev written : List ℕ
  written = c.path_to-length.new.path

  enough : c.path_to-length.result ≤ length written
  enough =
      let S = c.requires.shown in
      omega (arith, c.path_to-length.ensures.value, trace-short (length c.args.previous.now) c.args.previous.now c.args.goal [], S.previous-long, S.path-enough, c.path_to-length.auto.path)

  again : take c.path_to-length.result written ≡ cells
  again = ap (take c.path_to-length.result) c.path_to-length.ensures.path_after ∙ take_at cells _ c.path_to-length.result (sym c.path_to-length.ensures.value)

pub path_to-length-requires-clause-to_in_bounds : goal.path_to-length-requires-clause-to_in_bounds
path_to-length-requires-clause-to_in_bounds c = let S = c.requires.shown in omega (arith, S.goal_in, S.previous-long)

pub path_to-length-requires-clause-previous_inside : goal.path_to-length-requires-clause-previous_inside
path_to-length-requires-clause-previous_inside c = let S = c.requires.shown in c.requires.previous_inside

pub path_to-length-requires-clause-previous_len_bound : goal.path_to-length-requires-clause-previous_len_bound
path_to-length-requires-clause-previous_len_bound c = let S = c.requires.shown in omega (arith, S.previous-long, S.good.few)

pub path_to-length-requires-clause-previous_in_bounds : goal.path_to-length-requires-clause-previous_in_bounds
path_to-length-requires-clause-previous_in_bounds c = let S = c.requires.shown in omega (arith, S.previous-long, S.path-enough)

pub slice_bounds-totals_of-end : goal.slice_bounds-totals_of-end
slice_bounds-totals_of-end c = enough (goal.at.slice_bounds-totals_of-end c).After-path_to-length

pub slice_bounds-totals_of-end-2 : goal.slice_bounds-totals_of-end-2
slice_bounds-totals_of-end-2 c = sym (length-take-le _ (written (goal.at.slice_bounds-totals_of-end-2 c).After-path_to-length) (enough (goal.at.slice_bounds-totals_of-end-2 c).After-path_to-length))

pub totals_of-totals-requires : goal.totals_of-totals-requires
totals_of-totals-requires c = rw (again (goal.at.totals_of-totals-requires c).After-path_to-length) (traced_countable c.requires.shown c.requires.previous_inside)

pub returns : goal.returns
returns c =
    let args = c.args in
    let totals = rw (again (goal.at.returns c).After-path_to-length) at c.totals_of-totals.ensures in
    record {
      route-is = λ i. route_in (totals i) (c.path_to-length.ensures.value i) (sub-one (get_or args.known.now args.goal 0) i) args.expanded.0;
      path-is = rw c.path_to-length.ensures.value at c.path_to-length.ensures.path_after;
    }
