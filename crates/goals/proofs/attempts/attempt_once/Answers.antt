-- `attempt_once` meets its contract: the answer of the search, and then the conflict, taken apart.
use mathlib.Core.Path.{◌≡◌, sym, ◌∙◌}
use lib.Seq.{length-take-le}
use Rattle.std.proofs.lemmas.Result.{err_from_is_err_and}
use Rattle.std.specs.Prelude.{Some, None, Ok}
use Rattle.goals.specs.Goals.{site_task, searched_for}
use Rattle.goals.specs.Trials.{site_of, Tells}
use Rattle.goals.proofs.AttemptLaws.{ended_search, ended_full, ended-kept, ended-blocked, repeated, path_in, conflict_inside}
use Rattle.goals.proofs.attempts.attempt_once.Goals as goal
use Rattle.goals.proofs.attempts.attempt_once.Goals.{In-Some}

-- a route that the search found is the one of its task
route-told : (c : In-Some) → Tells (searched_for (site_task (site_of c.args.turn.ground c.args.turn.kinds.now c.args.joinable.now c.args.queue.now) c.args.blocked.now c.args.turn.start c.args.goal)) (Ok (Some c.in-Some.found)) c.search_for.new.path
route-told c =
    let is : c.search_for.result ≡ Ok (Some c.in-Some.found) = cc in
    rw is at (c.search_for.ensures.tells _ _ c.requires.says)

pub returns-in_err-tried-clause-attempted : goal.returns-in_err-tried-clause-attempted
returns-in_err-tried-clause-attempted c =
    let e = err_from_is_err_and c.from_residual.result c.from_residual.ensures.1 in
    rw (e.1, e.2) (ended_full _ _ _ _ _ (rw c.in_err-tried.was at (c.search_for.ensures.tells _ _ c.requires.says)))

pub returns-in_default-clause-attempted : goal.returns-in_default-clause-attempted
returns-in_default-clause-attempted c =
    let is : c.search_for.result ≡ Ok None = cc in
    ended_search _ _ _ _ (rw is at (c.search_for.ensures.tells _ _ c.requires.says))

pub slice_bounds-geometry_conflict-end : goal.slice_bounds-geometry_conflict-end
slice_bounds-geometry_conflict-end c = (route-told (goal.at.slice_bounds-geometry_conflict-end c).In-Some).fits

pub slice_bounds-geometry_conflict-end-2 : goal.slice_bounds-geometry_conflict-end-2
slice_bounds-geometry_conflict-end-2 c = sym (length-take-le _ _ (route-told (goal.at.slice_bounds-geometry_conflict-end-2 c).In-Some).fits)

pub geometry_conflict-conflict-requires-clause-all_cells : goal.geometry_conflict-conflict-requires-clause-all_cells
geometry_conflict-conflict-requires-clause-all_cells c =
    let args = c.args in
    path_in (site_of args.turn.ground args.turn.kinds.now args.joinable.now args.queue.now) _ _ _ c.requires.grounds.start_in c.requires.goal_in (route-told (goal.at.geometry_conflict-conflict-requires-clause-all_cells c).In-Some)

pub returns-in_default-conflict-clause-attempted : goal.returns-in_default-conflict-clause-attempted
returns-in_default-conflict-clause-attempted c =
    let t = route-told (goal.at.returns-in_default-conflict-clause-attempted c).In-Some in
    ended-kept _ _ _ _ t _ c.geometry_conflict-conflict.ensures.value c.in_default-conflict.is

pub ends_goal-requires : goal.ends_goal-requires
ends_goal-requires c =
    let grounds = c.requires.grounds in
    let t = route-told (goal.at.ends_goal-requires c).In-Some in
    rw grounds.blocked-long (conflict_inside _ _ _ _ grounds.start_in c.requires.goal_in t grounds.good _ (sym c.geometry_conflict-conflict.ensures.value ∙ c.in-Some-conflict.is))

pub returns-then-ends_goal-clause-attempted : goal.returns-then-ends_goal-clause-attempted
returns-then-ends_goal-clause-attempted c =
    let t = route-told (goal.at.returns-then-ends_goal-clause-attempted c).In-Some in
    ended-blocked _ _ _ _ t _ c.geometry_conflict-conflict.ensures.value _ c.in-Some-conflict.is (sym c.ends_goal.ensures ∙ c.if-ends_goal.true)

pub returns-clause-attempted : goal.returns-clause-attempted
returns-clause-attempted c =
    let grounds = c.requires.grounds in
    let t = route-told (goal.at.returns-clause-attempted c).In-Some in
    let inside = conflict_inside _ _ _ _ grounds.start_in c.requires.goal_in t grounds.good _ (sym c.geometry_conflict-conflict.ensures.value ∙ c.in-Some-conflict.is) in
    repeated _ _ _ _ t _ c.geometry_conflict-conflict.ensures.value _ c.in-Some-conflict.is inside (sym c.ends_goal.ensures ∙ c.if-ends_goal.false)
