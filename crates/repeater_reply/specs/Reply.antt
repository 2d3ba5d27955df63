-- What `dustroute_place_repeaters` returns, and what every lent byte then holds: the answer of `plan_net` as numbers. Definitions alone; each input determines
-- all of it.
use Rattle.std.specs.Prelude.{◌≡◌, Bool, ◌&&◌, List, [], ◌∷◌, ◌++◌, ℕ, ◌-◌, ◌*◌, ◌/◌, leb, eqb, length, take, replicate}
use Rattle.basics.specs.Tests.{either}
use Rattle.lent.specs.Lent.{output_after}
use Rattle.job_sheet.specs.declared.Endpoint.{Endpoint}
use Rattle.job_sheet.specs.declared.Sinks.{Sinks}
use Rattle.job_sheet.specs.Sheet.{max_sinks, no_endpoint}
use Rattle.sheet_writer.specs.Writer.{whole}
use Rattle.sheet_writer.specs.Export.{room_of, end_numbers, end_from, sink_numbers, sinks_from}
use Rattle.branches.specs.declared.BranchLengths.{BranchLengths}
use Rattle.branches.specs.Branches.{marked_count}
use Rattle.repeater_plan.specs.Plan.{Net, net, Lent, Outcome, planned, unplanned, outcome_of, number_for, lent_after}

-- ---- what the numbers tell

-- "source (5)". One of another length holds no end: nothing of it is judged, and number 6 is due at its place
unfoldable pub source_told : List ℕ → Endpoint
source_told l = either (eqb (length l) end_numbers) (end_from l) no_endpoint

-- "sinks (6 each)": the whole records. Of more than sixteen the first sixteen are judged, before number 6
unfoldable pub sinks_told : List ℕ → Sinks
sinks_told l = record { count = length l / sink_numbers; ends = (sinks_from (take (sink_numbers * max_sinks) l)).ends }

-- "lengths (one a branch, at most 16)": so of branches
unfoldable pub lengths_told : List ℕ → BranchLengths
lengths_told l = record { count = length l; each = take max_sinks l ++ replicate (max_sinks - length l) 0 }

abbrev pub net_told : (wide high deep run : ℕ) (source sinks branches lengths : List ℕ) → Net
net_told wide high deep run source sinks branches lengths =
    net (room_of wide high deep) run (source_told source) (sinks_told sinks) branches (lengths_told lengths)

-- ---- number 6

-- two values: the detail, and how many repeaters there are
abbrev pub value_count : ℕ
value_count = 2

-- "a slice that is no whole number of records, or a source of another length", or fewer values
unfoldable pub well_told : ℕ → ℕ → ℕ → Bool
well_told source sinks values = eqb source end_numbers && (whole sink_numbers sinks && leb value_count values)

-- where they are not well told number 6 is due at its place, as if no output were lent
abbrev pub lent_told : Bool → Lent → Lent
lent_told well B = record {
  repeaters = either well B.repeaters [];
  forbidden = B.forbidden;
  links = B.links;
  parents = B.parents;
  line = B.line;
}

-- ---- what comes back

abbrev pub told_outcome : Net → Bool → Lent → Outcome
told_outcome N well B = outcome_of N (lent_told well B)

-- the detail, and how many repeaters there are
abbrev pub values_for : Outcome → List ℕ
values_for (planned marks) = 0 ∷ marked_count marks ∷ []
values_for (unplanned number detail) = detail ∷ 0 ∷ []

-- the promise: the number comes back; 2 to 6 touch nothing, nor the values
pub record PlanTold (N : Net) (well : Bool) (B : Lent) (values : List ℕ) (r : ℕ) (B' : Lent) (values' : List ℕ) : Type 0 where
  pub number : r ≡ number_for (told_outcome N well B)
  pub lent_is : B' ≡ lent_after (told_outcome N well B) B
  pub values-are : values' ≡ output_after (number_for (told_outcome N well B)) (values_for (told_outcome N well B)) values
