-- What `dustroute_tree_why` returns, and what every lent buffer then holds: what `why_no_goal` answers, as numbers. The mode, the sheet and the lengths of the
-- lent buffers determine all of it. Definitions alone; their laws are in SinkReplyLaws.
use Rattle.std.specs.Prelude.{◌≡◌, List, ℕ, ◌+◌, ◌≤◌, ◌<◌, length, set}
use Rattle.basics.specs.Tests.{either}
use Rattle.lent.specs.Lent.{touches, filled, output_after}
use Rattle.ground.specs.declared.Mode.{Mode}
use Rattle.net_tree.specs.declared.Lengths.{Lengths}
use Rattle.net_tree.specs.Answers.{Answer, Lent, lengths_of, TreeOutcome, no_tree, answer_of, number_for, lent_after}
use Rattle.exports.specs.TreeExport.{value_count, number_told, tree_values, ShortNumber}
use Rattle.sink_why.specs.SinkWhy.{Reason, TellsWhy, WhyComes, Outputs}

-- the tree's twenty, then the sink's place and what may be said of it
abbrev pub place_at : ℕ
place_at = value_count

abbrev pub verdict_at : ℕ
verdict_at = value_count + 1

abbrev pub why_count : ℕ
why_count = value_count + 2

-- "Numbers 1 to 6 touch nothing", the values included; any other number writes the values and zeros behind them
abbrev pub why_values_after : Answer → ℕ → ℕ → List ℕ → List ℕ
why_values_after a place verdict values =
    either (touches (number_told a)) (set (set (filled (tree_values a) values) place_at place) verdict_at verdict) values

-- what comes of a sheet, where this many values are lent: fewer are number 6, at 6's place
pub data WhyTreeComes (mode : Mode) (sheet : List ℕ) (L : Lengths) (reached walls causes values : ℕ) (o : TreeOutcome) : Type 0 where
  too-few-values : values < why_count → (number : ℕ) → ShortNumber sheet number → o ≡ no_tree number 0 → WhyTreeComes mode sheet L reached walls causes values o
  enough-values : why_count ≤ values → WhyComes mode sheet L reached walls causes o → WhyTreeComes mode sheet L reached walls causes values o

-- the promise of `dustroute_tree_why`
pub record WhyTreeExported (mode : Mode) (sheet : List ℕ) (B : Lent) (U : Outputs) (values : List ℕ) (r : ℕ) (B' : Lent) (U' : Outputs) (values' : List ℕ) : Type 0 where
  pub outcome : TreeOutcome
  pub comes : WhyTreeComes mode sheet (lengths_of B) (length U.reached) (length U.walls) (length U.causes) (length values) outcome
  pub reason : Reason
  pub tells : TellsWhy mode sheet (lengths_of B) outcome reason
  pub number : r ≡ number_told (answer_of outcome)
  pub lent_is : B' ≡ lent_after outcome B
  pub reached-is : U'.reached ≡ output_after (number_for outcome) reason.reached U.reached
  pub walls-is : U'.walls ≡ output_after (number_for outcome) reason.walls U.walls
  pub causes-is : U'.causes ≡ output_after (number_for outcome) reason.causes U.causes
  pub values-is : values' ≡ why_values_after (answer_of outcome) reason.place reason.verdict values
