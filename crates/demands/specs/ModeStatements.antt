-- What a search's steps are in each mode, said by the room's own kinds and the blocked marks, so that a reader need not know what blocked Air is seen as:
-- definitions only. "Blocked air may be neither entered nor used as support; the search's own start and goal stay exempt from blocking."
use Rattle.std.specs.Prelude.{◌≡◌, ◌↔◌, Bool, true, false, List, ℕ, ◌+◌, ◌≤◌, Option, Some, None}
use Rattle.room.specs.Room.{beneath}
use Rattle.ground.specs.declared.Mode.{Mode}
use Rattle.ground.specs.declared.Mode.TheVariants.{Published, Strict}
use Rattle.room_search.specs.Routing.{Task}
use Rattle.blocked_world.specs.BlockedWorld.{blocked_air}
use Rattle.goals.specs.Goals.{Site, found, searched_for, site_task}
use Rattle.demands.specs.Lawful.{LawfulStep, step_cost, LawfulWay, way_cost}
use Rattle.demands.specs.Statements.{Priced}

-- the search from start to goal in the unblocked room, over the kinds that stand there
abbrev pub open_task : Site → ℕ → ℕ → Task
open_task S start goal = record { room = S.room; config = S.config; kinds = S.kinds; start = start; goal = goal; places = S.places }

-- right beneath a cell is blocked Air, neither the start nor the goal
abbrev pub blocked_in : List ℕ → List ℕ → ℕ → ℕ → Option ℕ → Bool
blocked_in kinds blocked start goal (Some u) = blocked_air kinds blocked start goal u
blocked_in kinds blocked start goal None = false

abbrev pub rests_on_blocked : Site → List ℕ → ℕ → ℕ → ℕ → Bool
rests_on_blocked S blocked start goal v = blocked_in S.kinds blocked start goal (beneath S.room v)

-- a step of the mode: it is lawful in the unblocked room, and the cell entered is not blocked Air; in strict mode the one beneath is none either. (Blocked
-- Air is Air, so what rests on it is lawful in the unblocked room.)
pub record ModeStep (S : Site) (blocked : List ℕ) (start goal u v : ℕ) : Type 0 where
  pub unblocked : LawfulStep (open_task S start goal) u v
  pub not_entered : blocked_air S.kinds blocked start goal v ≡ false
  pub not_rested_on : S.mode ≡ Strict → rests_on_blocked S blocked start goal v ≡ false

-- what the steps of a search are, and what they cost: as much as in the unblocked room, but for a support of blocked Air, which is not paid
pub record StepsMean (S : Site) (blocked : List ℕ) (start goal : ℕ) : Type 0 where
  pub exactly : (u v : ℕ) → LawfulStep (site_task S blocked start goal) u v ↔ ModeStep S blocked start goal u v
  pub price : (u v : ℕ) → ModeStep S blocked start goal u v → rests_on_blocked S blocked start goal v ≡ false
      → step_cost (site_task S blocked start goal) u v ≡ step_cost (open_task S start goal) u v
  pub free_support : (u v : ℕ) → ModeStep S blocked start goal u v → rests_on_blocked S blocked start goal v ≡ true
      → step_cost (site_task S blocked start goal) u v + S.config.support.0 ≡ step_cost (open_task S start goal) u v

-- the same site in a mode
abbrev pub in_mode : Mode → Site → Site
in_mode mode S = record { room = S.room; config = S.config; mode = mode; kinds = S.kinds; joinable = S.joinable; places = S.places }

-- one search in strict mode beside the same in the published one: its ways are ways of that mode too, and of the unblocked room, at the same price; so at
-- those costs a strict route is no cheaper
pub record StrictWays (S : Site) (blocked : List ℕ) (start goal : ℕ) : Type 0 where
  pub published : (after : List ℕ) → LawfulWay (site_task (in_mode Strict S) blocked start goal) after
      → LawfulWay (site_task (in_mode Published S) blocked start goal) after
      × (way_cost (site_task (in_mode Published S) blocked start goal) after ≡ way_cost (site_task (in_mode Strict S) blocked start goal) after)
  pub unblocked : (after : List ℕ) → LawfulWay (site_task (in_mode Strict S) blocked start goal) after
      → LawfulWay (open_task S start goal) after × (way_cost (open_task S start goal) after ≡ way_cost (site_task (in_mode Strict S) blocked start goal) after)
  pub no_cheaper : Priced S.config → (path path' : List ℕ) (cost cost' : ℕ)
      → searched_for (site_task (in_mode Published S) blocked start goal) ≡ found path cost
      → searched_for (site_task (in_mode Strict S) blocked start goal) ≡ found path' cost' → cost ≤ cost'
