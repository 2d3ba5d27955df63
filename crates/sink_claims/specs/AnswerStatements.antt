-- What `why_no_goal` tells beside the tree's own answer: definitions only, over its answer, the lent outputs and the sheet.
use Rattle.std.specs.Prelude.{◌≡◌, Err, ◌≢◌, ◌↔◌, true, false, List, ℕ, suc, ◌<◌, length, get_or, replicate}
use Rattle.numbers.specs.Refusals.{buffer_number, no_goal_number}
use Rattle.lent.specs.Lent.{touches}
use Rattle.room.specs.Room.{volume}
use Rattle.ground.specs.declared.Mode.{Mode}
use Rattle.multinet.specs.Tree.{Plot, sink_now}
use Rattle.why_tree.specs.WhyTree.{approach_taken, is_shut_in, sink_approach}
use Rattle.net_tree.specs.declared.Lengths.{Lengths}
use Rattle.net_tree.specs.Answers as trees
use Rattle.net_tree.specs.Answers.{Lent, lengths_of, plot_for}
use Rattle.exports.specs.TreeExport.{number_told}
use Rattle.sink_why.specs.SinkWhy.{Why, answer_in, place_in, verdict_in, StoppedAt, Outputs, asks_why}
use Rattle.sink_claims.specs.Statements.{VerdictMeans, VerdictExactly, SomeWay, JoinableUnblocked, kept_in, WallsSay, CausesSay}

-- the plot that the sheet's tree grew over, and the sink at whose turn it stopped
abbrev pub plot_there : {mode : Mode} {sheet : List ℕ} {L : Lengths} {number detail : ℕ} → StoppedAt mode sheet L number detail → Plot
plot_there {mode} {sheet} {L} S = plot_for mode S.contents L S.outset S.kinds

abbrev pub sink_there : {mode : Mode} {sheet : List ℕ} {L : Lengths} {number detail : ℕ} → StoppedAt mode sheet L number detail → ℕ
sink_there S = sink_now (plot_there S) S.turn

abbrev pub approach_there : {mode : Mode} {sheet : List ℕ} {L : Lengths} {number detail : ℕ} → StoppedAt mode sheet L number detail → ℕ
approach_there S = sink_approach (plot_there S) (sink_there S)

-- the three outputs are all zero, to their very end
pub record AllZero (U U' : Outputs) : Type 0 where
  pub reached_zero : U'.reached ≡ replicate (length U.reached) 0
  pub walls_zero : U'.walls ≡ replicate (length U.walls) 0
  pub causes_zero : U'.causes ≡ replicate (length U.causes) 0

-- numbers 13 and 14: where the growth stopped, the sink's place in the sheet, what its verdict means; and what the three outputs say of a sink that is shut in
pub record Told (mode : Mode) (sheet : List ℕ) (L : Lengths) (U : Outputs) (r : Why) (U' : Outputs) : Type 0 where
  pub number : ℕ
  pub detail : ℕ
  pub ended_so : answer_in r ≡ Err (record { number = number; detail = detail })
  pub stopped-at : StoppedAt mode sheet L number detail
  pub sink_in : sink_there stopped-at < length stopped-at.contents.sinks
  pub place_is : place_in r ≡ suc (sink_there stopped-at)
  pub verdict-means : VerdictMeans (plot_there stopped-at) stopped-at.tree (sink_there stopped-at) number (verdict_in r)
  pub verdict-exactly : number ≡ no_goal_number → VerdictExactly (plot_there stopped-at) stopped-at.tree (sink_there stopped-at) (verdict_in r)
  -- where neither the approach nor walls are to blame, wire can get to the net
  pub else_way : number ≡ no_goal_number → (verdict_in r) ≢ approach_taken → (verdict_in r) ≢ is_shut_in → JoinableUnblocked (plot_there stopped-at) stopped-at.tree
      → SomeWay (plot_there stopped-at) stopped-at.tree (sink_there stopped-at)
  pub walls_say : (verdict_in r) ≡ is_shut_in → WallsSay (plot_there stopped-at) stopped-at.tree (approach_there stopped-at) U'.reached U'.walls
  pub causes_say : (verdict_in r) ≡ is_shut_in
      → CausesSay stopped-at.kinds stopped-at.nodes stopped-at.contents (plot_there stopped-at) stopped-at.tree U'.causes
  -- each cell that is kept free has a cause
  pub kept_caused : (verdict_in r) ≡ is_shut_in → (v : ℕ) → v < volume stopped-at.contents.room
      → kept_in (plot_there stopped-at) stopped-at.tree (approach_there stopped-at) v ≡ true → get_or U'.causes v 0 ≢ 0
  pub else_zero : (verdict_in r) ≢ is_shut_in → AllZero U U'

-- any other number: no place, no verdict; the outputs are zero, or untouched where nothing is touched
pub record Untold (U : Outputs) (r : Why) (U' : Outputs) : Type 0 where
  pub no_place : place_in r ≡ 0
  pub no_verdict : verdict_in r ≡ 0
  pub zero_so : touches (number_told (answer_in r)) ≡ true → AllZero U U'
  pub kept-so : touches (number_told (answer_in r)) ≡ false → U' ≡ U

-- all of it: a verdict comes exactly with 13 and 14; and but for number 6, due of the outputs too, answer and memory are the tree's
pub record WhyMeans (mode : Mode) (sheet : List ℕ) (B : Lent) (U : Outputs) (r : Why) (B' : Lent) (U' : Outputs) : Type 0 where
  pub verdict-exactly : ((verdict_in r) ≢ 0) ↔ (asks_why (number_told (answer_in r)) ≡ true)
  pub told : asks_why (number_told (answer_in r)) ≡ true → Told mode sheet (lengths_of B) U r U'
  pub untold : asks_why (number_told (answer_in r)) ≡ false → Untold U r U'
  pub stands_in_lem : number_told (answer_in r) ≢ buffer_number → trees.Promise mode sheet B (answer_in r) B'
