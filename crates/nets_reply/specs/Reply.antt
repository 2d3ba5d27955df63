-- What `dustroute_nets` returns, and what every lent byte then holds: the answer of `route_nets` as numbers. Definitions alone; each input determines all of it.
use Rattle.std.specs.Prelude.{◌≡◌, Bool, List, [], ◌∷◌, ◌++◌, ℕ, leb, length, drop, Ok, Err}
use Rattle.basics.specs.Tests.{either}
use Rattle.lent.specs.Lent.{touches, filled}
use Rattle.ground.specs.declared.Mode.{Mode}
use Rattle.job_list.specs.Judged.{judged_list}
use Rattle.list_routing.specs.ListLent.{ListLent}
use Rattle.several_nets.specs.Answers.{ListAnswer, memory_of, ListOutcome, ListComes, answer_of, number_told, lent_after}

-- three values: the detail, the net's index, and how many nets there are
abbrev pub value_count : ℕ
value_count = 3

abbrev pub values_of : ListAnswer → List ℕ
values_of (Ok nets) = 0 ∷ 0 ∷ nets ∷ []
values_of (Err why) = why.detail ∷ why.net ∷ 0 ∷ []

-- so many values are lent
abbrev pub well_told : List ℕ → Bool
well_told values = leb value_count (length values)

-- "fewer lent are 6 at 6's place", as if the queue had no place
abbrev pub lent_told : Bool → ListLent → ListLent
lent_told well B = record {
  branches = B.branches;
  lengths = B.lengths;
  owners = B.owners;
  repeaters = B.repeaters;
  kinds = B.kinds;
  facings = B.facings;
  occupied = B.occupied;
  planned = B.planned;
  before = B.before;
  room = B.room;
  blocked = B.blocked;
  classes = B.classes;
  joinable = B.joinable;
  known = B.known;
  previous = B.previous;
  path = B.path;
  best = B.best;
  queue = either well B.queue [];
}

-- "writes its first three at every number but for a `values` that is too short, since the net that was refused is part of the answer"; behind them what was there
-- where nothing is touched, else zeros
abbrev pub values_after : Bool → ListAnswer → List ℕ → List ℕ
values_after well a values = either well (either (touches (number_told a)) (filled (values_of a) values) (values_of a ++ drop value_count values)) values

-- the promise of `dustroute_nets`
pub record NetsTold (mode : Mode) (list : List ℕ) (B : ListLent) (values : List ℕ) (r : ℕ) (B' : ListLent) (values' : List ℕ) : Type 0 where
  pub outcome : ListOutcome
  pub comes : ListComes mode list (judged_list (memory_of (lent_told (well_told values) B)) list) (length B.branches) (length (lent_told (well_told values) B).queue) outcome
  pub number : r ≡ number_told (answer_of outcome)
  pub lent_is : B' ≡ lent_after outcome B
  pub values-are : values' ≡ values_after (well_told values) (answer_of outcome) values
