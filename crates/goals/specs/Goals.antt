-- One sink's goals, as docs/RULES.md, The tree of one net, has them: the search for one goal, its attempts, and the cheapest of all goals.
-- Definitions alone; their laws are in the files named Laws.
use Rattle.std.specs.Prelude.{◌||◌, Bool, true, false, List, ℕ, zero, suc, ltb, eqb, Option, Some, None}
use Rattle.basics.specs.Tests.{either}
use Rattle.room.specs.declared.Room.{Room}
use Rattle.room.specs.declared.RouterConfig.{RouterConfig}
use Rattle.room.specs.Room.{volume}
use Rattle.best_first.specs.Search.{Answer, route, no_route, limit-passed, queue-full}
use Rattle.room_search.specs.Routing.{Task, an_end, routeable, searched}
use Rattle.routing_resources.specs.Marks.{marked_by, is_marked}
use Rattle.geometry.specs.Geometry.{conflict_of}
use Rattle.ground.specs.declared.Mode.{Mode}
use Rattle.blocked_world.specs.BlockedWorld.{seen_task}

-- "at most 64 attempts a goal"
abbrev pub max_attempts : ℕ
max_attempts = 64

-- what stays as it is while one sink is searched for: the room, the config, the mode, the kinds, the joinable cells, and the queue's places
pub record Site : Type 0 where
  pub room : Room
  pub config : RouterConfig
  pub mode : Mode
  pub kinds : List ℕ
  pub joinable : List ℕ
  pub places : ℕ

-- what a goal comes to: a path and its cost; nothing; or number 13 with its detail
pub data Trial : Type 0 where
  found : (path : List ℕ) (cost : ℕ) → Trial
  failed : Trial
  full : (expanded : ℕ) → Trial

-- "A failed search, the node limit included, ends that goal." "Search numbers 10 to 12 only end a goal there; 13 ends the tree."
abbrev pub trial_of : Answer → Trial
trial_of (route path cost x) = found path cost
trial_of (no_route x) = failed
trial_of (limit-passed x) = failed
trial_of (queue-full x) = full x

-- an end that is not routeable, number 10, ends the goal too
unfoldable pub searched_for : Task → Trial
searched_for T = either (routeable T T.start) (either (routeable T T.goal) (trial_of (searched T)) failed) failed

-- "A conflict that is start, goal or blocked already ends the goal"
abbrev pub ends_goal : List ℕ → ℕ → ℕ → ℕ → Bool
ends_goal blocked start goal v = an_end start goal v || is_marked blocked v

-- "any other is blocked for this goal and the search repeats"
unfoldable pub at_conflict : List ℕ → ℕ → ℕ → (List ℕ → Trial) → Trial → Option ℕ → Trial
at_conflict blocked start goal again kept None = kept
at_conflict blocked start goal again kept (Some v) =
    either (ends_goal blocked start goal v) failed (again (marked_by (eqb v) blocked))

-- what comes of a search: its route's conflict is looked for in the unblocked room; without a route the goal is ended
unfoldable pub after_search : Site → List ℕ → ℕ → ℕ → (List ℕ → Trial) → Trial → Trial
after_search S blocked start goal again (found path cost) =
    at_conflict blocked start goal again (found path cost) (conflict_of S.room S.kinds S.joinable path)
after_search S blocked start goal again failed = failed
after_search S blocked start goal again (full x) = full x

-- the search from start to goal, as it sees the room
abbrev pub site_task : Site → List ℕ → ℕ → ℕ → Task
site_task S blocked start goal = seen_task S.mode S.room S.config S.kinds blocked start goal S.places

-- one attempt, with what the attempts after it come to
abbrev pub attempt_then : Site → List ℕ → ℕ → ℕ → (List ℕ → Trial) → Trial
attempt_then S blocked start goal again =
    after_search S blocked start goal again (searched_for (site_task S blocked start goal))

-- so many attempts for one goal, from these blocked cells on
unfoldable pub attempts : ℕ → Site → ℕ → ℕ → List ℕ → Trial
attempts zero S start goal blocked = failed
attempts (suc n) S start goal blocked = attempt_then S blocked start goal (attempts n S start goal)

-- "The first strictly cheapest route is kept": a route of this cost takes the place of what is kept
abbrev pub beats : ℕ → Trial → Bool
beats cost (found path kept) = ltb cost kept
beats cost failed = true
beats cost (full x) = false

-- of what is kept and what a later goal came to. A goal whose queue is full ends it all
unfoldable pub cheaper_route : Trial → Trial → Trial
cheaper_route (full x) later = full x
cheaper_route failed later = later
cheaper_route (found path cost) (found path' cost') = either (beats cost' (found path cost)) (found path' cost') (found path cost)
cheaper_route (found path cost) failed = found path cost
cheaper_route (found path cost) (full x) = full x

-- "Each searches from its approach to every joinable cell in number order"
unfoldable pub tried_goal : Site → ℕ → List ℕ → ℕ → Trial
tried_goal S start blocked goal = either (is_marked S.joinable goal) (attempts max_attempts S start goal blocked) failed

-- the goals below n
unfoldable pub best_below : ℕ → Site → ℕ → List ℕ → Trial
best_below zero S start blocked = failed
best_below (suc n) S start blocked = cheaper_route (best_below n S start blocked) (tried_goal S start blocked n)

-- the first strictly cheapest route of all goals
unfoldable pub route_to_tree : Site → ℕ → List ℕ → Trial
route_to_tree S start blocked = best_below (volume S.room) S start blocked
