-- ONE CALL FOR REPEATERS: what is claimed of each answer of `plan_net`. Definitions alone; ClaimTheorems proves the claim.
use Rattle.std.specs.Prelude.{◌≡◌, true, false, List, ℕ, ◌<◌, take}
use Rattle.basics.specs.Lists.{In}
use Rattle.basics.specs.Folds.{along}
use Rattle.room.specs.Room.{volume}
use Rattle.routing_resources.specs.Marks.{is_marked, no_marks}
use Rattle.ends.specs.declared.Tap.{Tap}
use Rattle.ends.specs.declared.Taps.{Taps}
use Rattle.ends.specs.Ends.{sinks_in, terminal_in, source_end, taps_of, taps_in}
use Rattle.branches.specs.Branches.{marked_count}
use Rattle.walk.specs.Chains.{Chained}
use Rattle.walk.specs.Walks.{parents_from}
use Rattle.repeaters.specs.Repeaters.{tree_neighbours, run_of, tail_of}
use Rattle.repeaters.specs.NetEnds.{net_end_marks, is_net_end}
use Rattle.repeater_plan.specs.Plan.{Net, Lent, branches_in}
use Rattle.repeater_claims.specs.Between.{StandsBetween}

-- the source's terminal and the sinks' taps
abbrev pub source_of : Net → ℕ
source_of N = terminal_in (source_end N.room N.source)

abbrev pub taps_for : Net → Taps
taps_for N = taps_of N.room (sinks_in N.sinks)

-- the tree neighbours of a cell, and the parents that the walk over them finds
abbrev pub neighbours_of : Net → ℕ → List ℕ
neighbours_of N = tree_neighbours (branches_in N) (volume N.room)

abbrev pub parents_of : Net → List ℕ
parents_of N = parents_from (neighbours_of N) (volume N.room) (source_of N)

abbrev pub forbidden_of : Net → List ℕ
forbidden_of N = net_end_marks N.room (source_of N) (taps_for N)

-- ---- the two operations, each over all sinks in their order

-- the run to one sink, and the tail of one
abbrev pub run_to : Net → Tap → List ℕ → List ℕ
run_to N = run_of N.room (neighbours_of N) (parents_of N) (forbidden_of N) N.run

abbrev pub tail_to : Net → Tap → List ℕ → List ℕ
tail_to N = tail_of N.room (neighbours_of N) (parents_of N) (forbidden_of N)

-- "plans the runs of all sinks"
abbrev pub runs_of : Net → List ℕ → List ℕ
runs_of N marks = along (run_to N) (taps_in (taps_for N)) marks

-- "and only then looks at the tails"
abbrev pub tails_of : Net → List ℕ → List ℕ
tails_of N marks = along (tail_to N) (taps_in (taps_for N)) marks

-- ---- the claim, of an answer of so many repeaters

pub record PlanHolds (N : Net) (count : ℕ) (B' : Lent) : Type 0 where
  -- "its answer equals the two in turn"
  pub in_turn : take (volume N.room) B'.repeaters ≡ tails_of N (runs_of N (no_marks (volume N.room)))
  pub counted : count ≡ marked_count (tails_of N (runs_of N (no_marks (volume N.room))))
  -- a sink that no chain of branch steps joins to the source is passed over by both
  pub run-passes : (tap : Tap) → (Chained (neighbours_of N) (source_of N) tap.terminal → ⊥) → (marks : List ℕ) → run_to N tap marks ≡ marks
  pub tail_passes : (tap : Tap) → (Chained (neighbours_of N) (source_of N) tap.terminal → ⊥) → (marks : List ℕ) → tail_to N tap marks ≡ marks
  -- each repeater is in the room, joined to the source, between its two tree neighbours, opposite each other, off terminals and approaches
  pub inside : (v : ℕ) → is_marked B'.repeaters v ≡ true → v < volume N.room
  pub between : (v : ℕ) → is_marked B'.repeaters v ≡ true → StandsBetween N.room (neighbours_of N) (parents_of N) v
  pub no_end : (v : ℕ) → is_marked B'.repeaters v ≡ true → is_net_end (source_of N) (taps_for N) v ≡ false
