-- What is shut in stays shut in: one flood in which every joinable cell is exempt bounds the searches for each of them, in both modes, at any costs, places and attempts.
use Rattle.std.specs.Prelude.{◌≡◌, Bool, ◌&&◌, List, ℕ, ◌<◌, eqb, length, get_or, Option, Some, None}
use Rattle.std.proofs.Math.Path.{refl}
use Rattle.std.proofs.Common.{sym, ◌∙◌, eqb-true}
use Rattle.std.proofs.Math.Bool.{true, false, not, and-false}
use Rattle.basics.specs.Tests.{ask, never}
use Rattle.basics.specs.Lists.{In, below_all}
use Rattle.room.specs.declared.Room.{Room}
use Rattle.room.specs.declared.RouterConfig.{RouterConfig}
use Rattle.room.specs.Room.{volume, beneath, holds_at}
use Rattle.room.specs.RoomLaws.{beneath_in}
use Rattle.room.specs.Units.{air}
use Rattle.ground.specs.declared.Mode.{Mode}
use Rattle.ground.specs.declared.Mode.TheVariants.{Published, Strict}
use Rattle.room_search.specs.Routing.{kind_at, routeable_kind, routeable, an_end, bearing}
use Rattle.room_search.specs.SearchEndLaws.{start-is-end}
use Rattle.routing_resources.specs.Marks.{is_marked}
use Rattle.blocked_world.specs.BlockedWorld.{blocked_air, wall_of, seen_kinds, seen_task}
use Rattle.blocked_world.specs.SeenLaws.{wall_closed, blocked-is-air, end_open, seen_open, seen-blocked}
use Rattle.walk.specs.Chains.{Chained}
use Rattle.walk.specs.ChainLaws.{chained-here, chained-step, chained-on, chain-closed}
use Rattle.flood.specs.Walls.{free_by, reached_by}
use Rattle.flood.specs.FloodLaws.{free-by, by-free, free_in, reached-free}
use Rattle.why.specs.Why.{obstacle_for, obstacle_in, is_reached_of}
use Rattle.why_tree.specs.WhyTree.{exempt, kept_free, strictly, tree_obstacle, reaches_none}

-- ---- more free cells, more reached cells

module _ (R : Room) (f g : ℕ → ℕ) (start : ℕ) (start_in : start < volume R) (more : (v : ℕ) → v < volume R → f v ≡ 0 → g v ≡ 0) where
  free_more : (u w : ℕ) → In w (free_by R f u) → In w (free_by R g u)
  free_more u w i =
      let O = free-by R f u w i in
      by-free R g u w (record { by = O.by; below = O.below; there = record { is = O.there.is; free = more w (free_in R f u w i) O.there.free } })

  pub reached-more : (v : ℕ) → reached_by R f start v ≡ true → reached_by R g start v ≡ true
  reached-more v e =
      let C = (reached-free R f start start_in v).0 e in
      (reached-free R g start start_in v).1
      (chain-closed (free_by R f) (Chained (free_by R g) start)
      (λ u w p i. chained-on (free_by R g) start u w p (chained-step (free_by R g) u w (free_more u w i)))
      start C.cells v C.chain (chained-here (free_by R g) start))

-- ---- a cell that a search may enter has nothing against it

-- what an obstacle of 0 says
enterable : (isEnd : Bool) (kind below : ℕ) → obstacle_for isEnd kind below ≡ 0 → (routeable_kind isEnd kind ≡ true) × (eqb (bearing below) 0 ≡ false)
unfolding obstacle_for
enterable isEnd kind below e =
    ask (routeable_kind isEnd kind)
    (λ t. ask (eqb (bearing below) 0) (λ z. never (cc (rw (t, z) at e))) (λ n. (t, n)))
    (λ f. never (cc (rw f at e)))

entered : (isEnd : Bool) (kind below : ℕ) → routeable_kind isEnd kind ≡ true → eqb (bearing below) 0 ≡ false → obstacle_for isEnd kind below ≡ 0
unfolding obstacle_for
entered isEnd kind below t n = rw (t, n)

-- in strict mode a wall bears nothing
strict-bears : eqb (bearing (wall_of Strict)) 0 ≡ true
unfolding bearing
strict-bears = refl

air-bears : eqb (bearing air) 0 ≡ false
unfolding bearing
air-bears = refl

-- who may be entered as an end may be entered where more cells are exempt
routeable-more : (a b : Bool) (kind : ℕ) → (a ≡ true → b ≡ true) → routeable_kind a kind ≡ true → routeable_kind b kind ≡ true
unfolding routeable_kind
routeable-more true b kind m e = rw (m refl) e
routeable-more false true kind m e = ask (eqb kind air) (λ t. rw t) (λ f. never (cc (rw f at e)))
routeable-more false false kind m e = e

-- a search that sees these cells blocked, or more of them: attempts for one goal block cells besides those of the tree
module _ (mode : Mode) (R : Room) (kinds blocked later joinable : List ℕ) (start goal : ℕ) (long : length kinds ≡ volume R) (joins : is_marked joinable goal ≡ true)
    (still : (v : ℕ) → is_marked blocked v ≡ true → is_marked later v ≡ true) where
  abbrev seen : List ℕ
  seen = seen_kinds mode kinds later start goal

  end-exempt : (v : ℕ) → an_end start goal v ≡ true → exempt joinable start v ≡ true
  end-exempt v e =
      ask (eqb v start) (λ t. rw t)
      (λ f. let s : v ≡ goal = eqb-true v goal (rw f at e) in rw (f, s) joins)

  -- what is kept free is blocked Air to the search as well
  kept-blocked : (v : ℕ) → blocked_air kinds later start goal v ≡ false → kept_free kinds blocked joinable start v ≡ false
  unfolding blocked_air kept_free
  kept-blocked v e =
      ask (is_marked blocked v)
      (λ m. ask (an_end start goal v)
      (λ t. rw (end-exempt v t, and-false (is_marked blocked v), and-false (eqb (get_or kinds v air) air)))
      (λ f. rw m (less (eqb (get_or kinds v air) air) (exempt joinable start v) (rw (still v m, f) at e))))
      (λ n. rw (n, and-false (eqb (get_or kinds v air) air)))
    where
      less : (a c : Bool) → a && true ≡ false → a && not c ≡ false
      less true c q = never (cc)
      less false c q = refl

  -- the cell itself
  cell_free : (v : ℕ) → v < volume R → routeable_kind (an_end start goal v) (get_or seen v air) ≡ true
      → (routeable_kind (exempt joinable start v) (get_or kinds v air) ≡ true) × (kept_free kinds blocked joinable start v ≡ false)
  cell_free v h e =
      ask (blocked_air kinds later start goal v)
      (λ t. absurd (wall_closed mode (an_end start goal v) (rw (seen-blocked kinds later start goal v mode (rw long h) t) at e)))
      (λ f. (
        routeable-more (an_end start goal v) (exempt joinable start v) (get_or kinds v air) (end-exempt v) (rw (seen_open kinds later start goal v mode (rw long h) f) at e),
        kept-blocked v f,
      ))

  -- what is beneath it
  below_free : (u : ℕ) → u < volume R → eqb (bearing (get_or seen u air)) 0 ≡ false
      → (eqb (bearing (get_or kinds u air)) 0 ≡ false) × (strictly mode (kept_free kinds blocked joinable start u) ≡ false)
  below_free u h e =
      ask (blocked_air kinds later start goal u)
      (λ t. (rw (blocked-is-air kinds later start goal u t) air-bears, by_mode mode (rw (seen-blocked kinds later start goal u mode (rw long h) t) at e)))
      (λ f. (rw (seen_open kinds later start goal u mode (rw long h) f) at e, rw (kept-blocked u f) (never-strict mode)))
    where
      never-strict : (m : Mode) → strictly m false ≡ false
      never-strict Published = refl
      never-strict Strict = refl

      by_mode : (m : Mode) → eqb (bearing (wall_of m)) 0 ≡ false → strictly m (kept_free kinds blocked joinable start u) ≡ false
      by_mode Published q = refl
      by_mode Strict q = never (cc (sym strict-bears ∙ q))

  -- at the place beneath
  place-free : (v : ℕ) → v < volume R → (place : Option ℕ) → beneath R v ≡ place → eqb (bearing (kind_at seen place)) 0 ≡ false
      → (eqb (bearing (kind_at kinds place)) 0 ≡ false) × (strictly mode (holds_at (kept_free kinds blocked joinable start) place) ≡ false)
  place-free v h (Some u) p e = below_free u (beneath_in R v u h p) e
  place-free v h None p e = (e, outside mode)
    where
      outside : (m : Mode) → strictly m false ≡ false
      outside Published = refl
      outside Strict = refl

  pub search_free : (v : ℕ) → v < volume R → obstacle_in R seen start goal v ≡ 0 → tree_obstacle mode R kinds blocked joinable start v ≡ 0
  unfolding tree_obstacle
  search_free v h e =
      let a = enterable (an_end start goal v) (get_or seen v air) (kind_at seen (beneath R v)) e in
      let c = cell_free v h a.0 in
      let b = place-free v h (beneath R v) refl a.1 in
      rw (entered (exempt joinable start v) (get_or kinds v air) (kind_at kinds (beneath R v)) c.0 b.0, c.1, b.1)

  -- ---- the claim of one goal

  module _ (start_in : start < volume R) (goal_in : goal < volume R) (none : reaches_none R (reached_by R (tree_obstacle mode R kinds blocked joinable start) start) joinable ≡ true) where
    goal-out : reached_by R (tree_obstacle mode R kinds blocked joinable start) start goal ≡ false
    unfolding reaches_none
    goal-out =
        ask (reached_by R (tree_obstacle mode R kinds blocked joinable start) start goal)
        (λ t. let n = below_all _ (volume R) none goal goal_in in never (cc (rw (t, joins) at n)))
        (λ f. f)

    -- "for each joinable goal, any config and places": lawful steps of its searches don't lead to it
    pub goal-unreached : (C : RouterConfig) (places : ℕ) → is_reached_of (seen_task mode R C kinds later start goal places) goal ≡ false
    goal-unreached C places =
        ask (reached_by R (obstacle_in R seen start goal) start goal)
        (λ t. never (cc (sym goal-out ∙ reached-more R (obstacle_in R seen start goal) (tree_obstacle mode R kinds blocked joinable start) start start_in search_free goal t)))
        (λ f. f)

-- ---- an approach that is taken: no search may begin there, whatever its goal

module _ (mode : Mode) (R : Room) (kinds blocked : List ℕ) (start goal : ℕ) (long : length kinds ≡ volume R) (start_in : start < volume R)
    (taken : routeable_kind true (get_or kinds start air) ≡ false) where
  -- "number 10 for every goal"
  pub start-shut : (C : RouterConfig) (places : ℕ) → routeable (seen_task mode R C kinds blocked start goal places) start ≡ false
  unfolding routeable
  start-shut C places =
      let an-end = start-is-end start goal in
      rw (an-end, seen_open kinds blocked start goal start mode (rw long start_in) (end_open kinds blocked start goal start an-end)) taken
