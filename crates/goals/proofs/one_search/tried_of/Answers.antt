-- `tried_of` meets its contract: a route goes on, and each outcome with none ends the goal.
use mathlib.Core.Path.{◌≡◌, refl}
use mathlib.Core.List.{List}
use Prim.Native.Nat.{ℕ}
use Rattle.room.specs.declared.Nodes.{Nodes}
use Rattle.room_search.specs.declared.Outcome.{Outcome}
use Rattle.room_search.specs.declared.Outcome.TheVariants.{Arrived, NoRoute, LimitPassed, QueueFull}
use Rattle.std.specs.Prelude.{None, Ok}
use Rattle.goals.specs.Trials.{TriedOf}
use Rattle.goals.specs.SearchForLaws.{outcome-route, outcome-none, outcome-limit, outcome-full}
use Rattle.goals.proofs.one_search.tried_of.Goals as goal

-- neither a route nor a full queue: both that are left fail
failed-unless : {goal : ℕ} {known previous : List ℕ} (o : Outcome) → ((x : Nodes) → o ≡ Arrived x → ⊥) → ((x : Nodes) → o ≡ QueueFull x → ⊥) → (cells : List ℕ)
    → TriedOf o goal known previous (Ok None) cells
failed-unless (Arrived x) a f cells = absurd (a x refl)
failed-unless (NoRoute x) a f cells = outcome-none cells x
failed-unless (LimitPassed x) a f cells = outcome-limit cells x
failed-unless (QueueFull x) a f cells = absurd (f x refl)

pub returns-in_default-outcome : goal.returns-in_default-outcome
returns-in_default-outcome c = failed-unless c.args.outcome c.in_default.not-Arrived c.in_default-outcome.not-QueueFull _

pub returns-in_default : goal.returns-in_default
returns-in_default c = rw c.in-QueueFull.is (outcome-full _ _)

pub write_route-requires-clause-goal_in_bounds : goal.write_route-requires-clause-goal_in_bounds
write_route-requires-clause-goal_in_bounds c =
    let shows = rw c.in-Arrived.is at c.requires.showable in c.requires.goal_in_bounds

pub write_route-requires-clause-previous_inside : goal.write_route-requires-clause-previous_inside
write_route-requires-clause-previous_inside c =
    let shows = rw c.in-Arrived.is at c.requires.showable in shows.0

pub write_route-requires-clause-nonzero : goal.write_route-requires-clause-nonzero
write_route-requires-clause-nonzero c =
    let shows = rw c.in-Arrived.is at c.requires.showable in shows.1

pub returns : goal.returns
returns c = rw c.in-Arrived.is (outcome-route _ c.write_route.ensures)
