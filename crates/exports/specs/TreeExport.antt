-- What `dustroute_tree` and `dustroute_tree_mode` return, and what every lent buffer then holds: the answer of `route_net_tree` as numbers. The mode, the
-- sheet and the lengths of the lent buffers determine all of it.
use Rattle.std.specs.Prelude.{◌≡◌, Ok, Err, List, [], ◌∷◌, ℕ, ◌+◌, ◌≤◌, ◌<◌, eqb, length}
use Rattle.numbers.specs.Refusals.{done_number, buffer_number}
use Rattle.basics.specs.Tests.{either}
use Rattle.lent.specs.Lent.{output_after}
use Rattle.ground.specs.declared.Mode.{Mode}
use Rattle.ground.specs.declared.Mode.TheVariants.{Published, Strict}
use Rattle.job_sheet.specs.declared.Reading.{Reading}
use Rattle.job_sheet.specs.Sheet.{Read, is_good, number_of, max_sinks}
use Rattle.branches.specs.Branches.{branch_lengths}
use Rattle.net_tree.specs.declared.Lengths.{Lengths}
use Rattle.net_tree.specs.Answers.{Answer, Lent, lengths_of, TreeOutcome, no_tree, Comes, answer_of, lent_after}

-- the values: the detail, how many branches, occupied cells and repeaters there are, then sixteen lengths
abbrev pub value_count : ℕ
value_count = 4 + max_sinks

-- the mode that `strict` stands for: 0 is the published router's, any other number is strict
abbrev pub mode_of : ℕ → Mode
mode_of strict = either (eqb strict 0) Published Strict

-- ---- an answer as numbers

abbrev pub number_told : Answer → ℕ
number_told (Ok tree) = done_number
number_told (Err refused) = refused.number

-- the branches' lengths stand in sheet order, zero behind their count; all are zero after a refusal
abbrev pub tree_values : Answer → List ℕ
tree_values (Ok tree) = 0 ∷ tree.lengths.count ∷ tree.occupied ∷ tree.repeaters ∷ tree.lengths.each
tree_values (Err refused) = refused.detail ∷ 0 ∷ 0 ∷ 0 ∷ (branch_lengths []).each

-- "Numbers 1 to 6 touch nothing", the values included; any other number writes the values and zeros behind them
abbrev pub values_after : Answer → List ℕ → List ℕ
values_after a values = output_after (number_told a) (tree_values a) values

-- ---- too few values

-- fewer values than a tree comes to are number 6, at 6's place: a sheet's reading, 1 to 5, is judged before it
pub record ShortNumber (sheet : List ℕ) (number : ℕ) : Type 0 where
  pub reading : Reading
  pub read : Read sheet reading
  pub number_is : number ≡ either (is_good reading.judgement) buffer_number (number_of reading.judgement)

-- what comes of a sheet, where this many values are lent
pub data TreeComes (mode : Mode) (sheet : List ℕ) (L : Lengths) (values : ℕ) (o : TreeOutcome) : Type 0 where
  too-few-values : values < value_count → (number : ℕ) → ShortNumber sheet number → o ≡ no_tree number 0 → TreeComes mode sheet L values o
  enough-values : value_count ≤ values → Comes mode sheet L o → TreeComes mode sheet L values o

-- the promise of `dustroute_tree`, in the published mode, and of `dustroute_tree_mode`
pub record TreeExported (mode : Mode) (sheet : List ℕ) (B : Lent) (values : List ℕ) (r : ℕ) (B' : Lent) (values' : List ℕ) : Type 0 where
  pub outcome : TreeOutcome
  pub comes : TreeComes mode sheet (lengths_of B) (length values) outcome
  pub number : r ≡ number_told (answer_of outcome)
  pub lent_is : B' ≡ lent_after outcome B
  pub values-is : values' ≡ values_after (answer_of outcome) values
