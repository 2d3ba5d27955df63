-- `grow_sink` meets its contract: the search found the queue full, no goal has a route, or the branch is placed or does not fit.
use mathlib.Core.Path.{◌≡◌, refl, sym, ap, ◌∙◌}
use Rattle.std.specs.Prelude.{Some, Ok}
use lib.Seq.{length-take-le}
use Prim.Native.Nat.{◌<◌}
use native.Mathlib.Omega.{arith}
use Rattle.job_sheet.specs.Sheet.{max_sinks}
use Rattle.multinet.proofs.SinkTurnLaws.{sink_in, found-fits, findable, branch-placeable, came-full, came-failed, came-placed}
use Rattle.multinet.proofs.growing.grow_sink.Goals as goal
use Rattle.multinet.proofs.growing.grow_sink.Goals.{After-sink_at-sink, In-Some}

-- the turn's sink is numbered below the most sinks
sink-few : (c : After-sink_at-sink) → c.sink_at-sink.result < max_sinks
sink-few c = let pre = c.requires in omega (arith, sink_in pre.sound pre.growing pre.count-is _ c.sink_at-sink.ensures pre.turn_in_lem, pre.sound.net.taps_in_lem.few)

pub offset_bounds-taps-sink : goal.offset_bounds-taps-sink
offset_bounds-taps-sink c = record { fits = omega (arith, sink-few (goal.at.offset_bounds-taps-sink c).After-sink_at-sink) }

pub bounds-taps-sink : goal.bounds-taps-sink
bounds-taps-sink c = sink-few (goal.at.bounds-taps-sink c).After-sink_at-sink

pub find_route-tried-requires : goal.find_route-tried-requires
find_route-tried-requires c = findable c.requires _ c.sink_at-sink.ensures

-- the route that was found
is-found : (c : In-Some) → c.find_route-tried.result ≡ Ok (Some c.in-Some.found)
is-found c = c.in-Ok.is ∙ ap Ok c.in-Some.is

pub slice_bounds-place_branch-end : goal.slice_bounds-place_branch-end
slice_bounds-place_branch-end c = found-fits c.find_route-tried.ensures.tells _ (is-found (goal.at.slice_bounds-place_branch-end c).In-Some)

pub slice_bounds-place_branch-end-2 : goal.slice_bounds-place_branch-end-2
slice_bounds-place_branch-end-2 c = sym (length-take-le _ _ (found-fits c.find_route-tried.ensures.tells _ (is-found (goal.at.slice_bounds-place_branch-end-2 c).In-Some)))

pub place_branch-requires : goal.place_branch-requires
place_branch-requires c = branch-placeable c.requires _ c.sink_at-sink.ensures c.find_route-tried.ensures.tells _ (is-found (goal.at.place_branch-requires c).In-Some) c.find_route-tried.ensures.joinable_unchanged.0 c.find_route-tried.ensures.joinable_unchanged.1

pub returns-in-Err : goal.returns-in-Err
returns-in-Err c = came-full c.requires _ c.sink_at-sink.ensures c.find_route-tried.ensures.tells _ c.in-Err.is c.find_route-tried.ensures.joinable_unchanged.0 c.find_route-tried.ensures.joinable_unchanged.1

pub returns-in_default : goal.returns-in_default
returns-in_default c =
    came-failed c.requires _ c.sink_at-sink.ensures c.find_route-tried.ensures.tells (c.in-Ok.is ∙ ap Ok c.in_default.is) c.find_route-tried.ensures.joinable_unchanged.0 c.find_route-tried.ensures.joinable_unchanged.1

pub returns : goal.returns
returns c = came-placed c.requires _ c.sink_at-sink.ensures c.find_route-tried.ensures.tells _ (is-found (goal.at.returns c).In-Some) refl c.find_route-tried.ensures.joinable_unchanged.0 c.find_route-tried.ensures.joinable_unchanged.1 c.place_branch.ensures
