-- What can be entered in a sink's searches: its goal, the cell right above it, and else only what can be entered at its turn, before any cell is blocked
-- for one goal.
use Rattle.std.specs.List.{filter, count_by}
use Rattle.std.proofs.lemmas.List.Sums.{length-filter, sum_by-cons}
use Rattle.std.specs.Prelude.{◌≡◌, refl, ◌≢◌, Bool, true, false, cond, ◌||◌, List, [], ◌∷◌, eqb, get_or, Option, Some, None}
use Rattle.std.proofs.Common.{sym, ◌∙◌, mul-one, eq-eqb, ne_eqb}
use Rattle.std.proofs.Math.Path.{ap}
use Rattle.std.proofs.Math.Bool.{or-false, or_self}
use Prim.Native.Nat.{ℕ, zero, suc, ◌+◌, ◌≤◌, ◌<◌, zero-le}
use native.Mathlib.Omega.{arith}
use Rattle.std.proofs.Math.ListN.{length}
use Rattle.std.proofs.lemmas.Bool.{eqb-false, not-true}
use Rattle.basics.specs.Tests.{ask, ask_same, never, and_left, and_right, and_both}
use Rattle.basics.specs.Counts.{bit, bit-small}
use Rattle.basics.specs.Sums.{sum_below, sum_le, sum_same}
use Rattle.room.specs.declared.Room.{Room}
use Rattle.room.specs.declared.RouterConfig.{RouterConfig}
use Rattle.room.specs.Room.{Good, volume, beneath, above}
use Rattle.room.specs.RoomLaws.{beneath_in}
use Rattle.room.specs.AboveLaws.{beneath-above}
use Rattle.room.specs.Units.{air}
use Rattle.ground.specs.declared.Mode.{Mode}
use Rattle.best_first.specs.Statements.{count_below, OnlyInto}
use Rattle.room_search.specs.Routing.{kind_at, an_end, routeable_kind, bearing, class_for, can_enter, entering, graph_of, graph}
use Rattle.room_search.specs.GraphLaws.{sound}
use Rattle.room_search.specs.Slackness.{into-enterable}
use Rattle.routing_resources.specs.Marks.{with_byte, marked_by, is_marked}
use Rattle.blocked_world.specs.BlockedWorld.{blocked_air, seen_kind, seen_kinds, seen_task, class_seen, Says}
use Rattle.blocked_world.specs.SeenLaws.{wall_closed, blocked-is-air, seen_at}
use Rattle.goals.specs.NeverFull.{enterable_count}

-- the same cells are blocked, and maybe more
abbrev pub StillBlocked : List ℕ → List ℕ → Type 0
StillBlocked blocked blocked' = (v : ℕ) → is_marked blocked v ≡ true → is_marked blocked' v ≡ true

-- a mark stays where others are made
pub still_marked : (test : ℕ → Bool) (marks : List ℕ) (v : ℕ) → is_marked marks v ≡ true → is_marked (marked_by test marks) v ≡ true
unfolding with_byte
still_marked test [] v e = never (cc)
still_marked test (m ∷ ms) zero e = ask (test 0) (λ t. rw t) (λ f. rw f e)
still_marked test (m ∷ ms) (suc v) e = still_marked (λ u. test (suc u)) ms v e

-- ---- one cell

can_enter_lem : (class : ℕ) → class ≢ 0 → can_enter class ≡ true
can_enter_lem class n = rw (ne_eqb class 0 n)

-- what a class other than 0 says
module _ (isEnd : Bool) (kind below : ℕ) (n : class_for isEnd kind below ≢ 0) where
  is-routeable : routeable_kind isEnd kind ≡ true
  unfolding class_for
  is-routeable = ask (routeable_kind isEnd kind) (λ t. t) (λ f. absurd (n (rw f)))

  is-borne : bearing below ≢ 0
  unfolding class_for
  is-borne e = n (rw (is-routeable, e))

-- Air bears
air-bears : (kind : ℕ) → kind ≡ air → bearing kind ≢ 0
unfolding bearing
air-bears kind t = rw t (λ e. omega arith)

module _ (mode : Mode) (R : Room) (kinds blocked blocked' : List ℕ) (start goal : ℕ) (still : StillBlocked blocked blocked') where
  same_end : (v : ℕ) → v ≢ goal → an_end start goal v ≡ an_end start start v
  same_end v n = rw (ne_eqb v goal n, or-false (eqb v start), or_self (eqb v start))

  -- a cell other than the goal that is blocked Air at the turn is so in the search
  wall_still : (v : ℕ) → v ≢ goal → blocked_air kinds blocked start start v ≡ true → blocked_air kinds blocked' start goal v ≡ true
  unfolding blocked_air
  wall_still v n t =
      let marked = and_right (eqb (get_or kinds v air) air) _ t in
      and_both (and_left (eqb (get_or kinds v air) air) _ t) (and_both (still v (and_left (is_marked blocked v) _ marked)) (rw (same_end v n) (and_right (is_marked blocked v) _ marked)))

  still-routeable : (v : ℕ) → v ≢ goal → (isEnd : Bool) → routeable_kind isEnd (seen_kind mode kinds blocked' start goal v) ≡ true → routeable_kind isEnd (seen_kind mode kinds blocked start start v) ≡ true
  unfolding seen_kind
  still-routeable v n isEnd e =
      ask (blocked_air kinds blocked' start goal v)
      (λ t. absurd (wall_closed mode isEnd (rw t at e)))
      (λ f. ask (blocked_air kinds blocked start start v) (λ t. never (cc (sym f ∙ wall_still v n t))) (λ g. rw g (rw f at e)))

  -- what bears in the search bears at the turn: it is seen alike, or it is Air that was blocked since
  still-bears : (v : ℕ) → v ≢ goal → bearing (seen_kind mode kinds blocked' start goal v) ≢ 0 → bearing (seen_kind mode kinds blocked start start v) ≢ 0
  unfolding seen_kind
  still-bears v n b =
      ask (blocked_air kinds blocked start start v)
      (λ t. rw t (rw (wall_still v n t) at b))
      (λ f. rw f (ask (blocked_air kinds blocked' start goal v)
      (λ t. air-bears (get_or kinds v air) (blocked-is-air kinds blocked' start goal v t))
      (λ g. rw g at b)))

  module _ (long : length kinds ≡ volume R) where
    still-borne : (place : Option ℕ) → ((u : ℕ) → place ≡ Some u → (u < volume R) × (u ≢ goal))
        → bearing (kind_at (seen_kinds mode kinds blocked' start goal) place) ≢ 0 → bearing (kind_at (seen_kinds mode kinds blocked start start) place) ≢ 0
    still-borne None inside n = n
    still-borne (Some u) inside n =
        let l : u < length kinds = rw long (inside u refl).0 in
        rw (seen_at mode kinds blocked start start u l) (still-bears u (inside u refl).1 (rw (seen_at mode kinds blocked' start goal u l) at n))

    -- a cell other than the goal, and not right above it, that can be entered in the search can be entered at the turn
    still-enterable : (v : ℕ) → v < volume R → v ≢ goal → beneath R v ≢ Some goal
        → class_seen mode R kinds blocked' start goal v ≢ 0 → class_seen mode R kinds blocked start start v ≢ 0
    unfolding class_seen class_for
    still-enterable v h n o c =
        let l : v < length kinds = rw long h in
        let kind = still-routeable v n (an_end start goal v) (rw (seen_at mode kinds blocked' start goal v l) at (is-routeable _ _ _ c)) in
        let below = still-borne (beneath R v) (λ u e. (beneath_in R v u h e, λ q. o (e ∙ ap Some q))) (is-borne _ _ _ c) in
        rw (seen_at mode kinds blocked start start v l, ← same_end v n, kind) below

-- ---- all cells

-- at most 1 more at one number, and no more elsewhere
sum-one-more : (n v : ℕ) (f g : ℕ → ℕ) → ((x : ℕ) → x ≢ v → f x ≤ g x) → f v ≤ g v + 1 → sum_below n f ≤ sum_below n g + 1
unfolding sum_below
sum-one-more zero v f g h one = zero-le
sum-one-more (suc n) v f g h one =
    ask_same n v
    (λ e. omega (arith, sum_le n f g (λ x l. h x (λ q. omega arith)), rw (← e) at one))
    (λ d. omega (arith, sum-one-more n v f g h one, h n d))

-- that cell, if there is one
abbrev pub is_at : Option ℕ → ℕ → Bool
is_at (Some u) v = eqb v u
is_at None v = false

-- by the class bytes of the turn, a search for that goal may enter a cell. In strict mode the goal, which is exempt, may bear the cell above it, where at the
-- turn it is blocked Air and bears nothing
abbrev pub enters_for : Room → List ℕ → ℕ → ℕ → Bool
enters_for R classes goal v = eqb v goal || (is_at (above R goal) v || can_enter (get_or classes v 0))

-- one cell more
with_one : (n u : ℕ) (test : ℕ → Bool) → count_below n (λ v. eqb v u || test v) ≤ count_below n test + 1
with_one n u test =
    sum-one-more n u (λ v. bit (eqb v u || test v)) (λ v. bit (test v))
    (λ v d. rw (ne_eqb v u d) (omega arith))
    (omega (arith, bit-small (eqb u u || test u)))

with_place : (n : ℕ) (place : Option ℕ) (test : ℕ → Bool) → count_below n (λ v. is_at place v || test v) ≤ count_below n test + 1
with_place n (Some u) test = with_one n u test
with_place n None test = omega arith

pub enters-few : (R : Room) (n : ℕ) (classes : List ℕ) (goal : ℕ) → count_below n (enters_for R classes goal) ≤ enterable_count n classes + 2
enters-few R n classes goal = omega (
  arith,
  with_one n goal (λ v. is_at (above R goal) v || can_enter (get_or classes v 0)),
  with_place n (above R goal) (λ v. can_enter (get_or classes v 0)),
)

-- what can be entered in a search for that goal
pub enters_for_lem : (mode : Mode) (R : Room) → Good R → (C : RouterConfig) (kinds blocked blocked' : List ℕ) (start goal places : ℕ) {classes : List ℕ}
    → length kinds ≡ volume R → Says mode R kinds blocked start start classes → StillBlocked blocked blocked'
    → (v : ℕ) → v < volume R → entering (seen_task mode R C kinds blocked' start goal places) v ≢ 0 → enters_for R classes goal v ≡ true
unfolding class_seen
enters_for_lem mode R G C kinds blocked blocked' start goal places {classes} long says still v h e =
    ask_same v goal
    (λ q. rw (eq-eqb v goal q))
    (λ d. rw (ne_eqb v goal d) (ask (is_at (above R goal) v)
    (λ t. rw t)
    (λ f. rw (f, says.each v h) (can_enter_lem _ (still-enterable mode R kinds blocked blocked' start goal still long v h d
    (λ b. never (cc (sym f ∙ over (beneath-above R G v goal h b)))) e)))))
  where
    -- right above the goal
    over : above R goal ≡ Some v → is_at (above R goal) v ≡ true
    over q = rw (q, eq-eqb v v refl)

pub enters-only : (mode : Mode) (R : Room) → Good R → (C : RouterConfig) (kinds blocked blocked' : List ℕ) (start goal places : ℕ) {classes : List ℕ} → start < volume R → goal < volume R
    → length kinds ≡ volume R → Says mode R kinds blocked start start classes → StillBlocked blocked blocked'
    → OnlyInto (graph (seen_task mode R C kinds blocked' start goal places)) (enters_for R classes goal)
unfolding graph_of
enters-only mode R G C kinds blocked blocked' start goal places {classes} start_in goal_in long says still =
    let class = entering (seen_task mode R C kinds blocked' start goal places) in
    record {
      passes = λ u m i n.
          enters_for_lem mode R G C kinds blocked blocked' start goal places long says still m.to
          ((sound R C class start goal places start_in goal_in).inside u m i)
          (eqb-false _ 0 (not-true _ ((into-enterable R C class start goal places).passes u m i n)));
    }

-- ---- how many can be entered

-- the first apart
first-apart : (n : ℕ) (f : ℕ → ℕ) → sum_below (suc n) f ≡ f 0 + sum_below n (λ i. f (suc i))
unfolding sum_below
first-apart zero f = omega arith
first-apart (suc n) f = omega (arith, first-apart n f)

-- those that a walk through the list counts
pub enterable-filtered : (classes : List ℕ) → length (filter can_enter classes) ≡ enterable_count (length classes) classes
unfolding sum_below
enterable-filtered [] = refl
enterable-filtered (x ∷ xs) = rw (length-filter can_enter (x ∷ xs), sum_by-cons (λ v. cond (can_enter v) 1 0) x xs, first-apart (length xs) (λ v. bit (can_enter (get_or (x ∷ xs) v 0))), ← enterable-filtered xs, length-filter can_enter xs) (go (can_enter x) (count_by can_enter xs))
  where
    go : (b : Bool) (n : ℕ) → cond b 1 0 + n ≡ bit b + n
    go true n = refl
    go false n = refl

-- ---- the loop that counts

pub record EnterableCounted (classes : List ℕ) (count v : ℕ) : Type 0 where
  pub counted : count ≡ enterable_count v classes
  pub few : count ≤ v
  pub within : v ≤ length classes

pub enterable-none : (classes : List ℕ) → EnterableCounted classes 0 0
unfolding sum_below
enterable-none classes = record { counted = refl; few = omega arith; within = omega arith }

module _ {classes : List ℕ} {count v : ℕ} (E : EnterableCounted classes count v) where
  one_more : v < length classes → (n : ℕ) → bit (can_enter (get_or classes v 0)) ≡ n → n ≤ 1 → EnterableCounted classes (count + n) (v + 1)
  unfolding sum_below
  one_more h n e l = record {
    counted =
        let s : v + 1 ≡ suc v = omega arith in
        let c : count + n ≡ enterable_count v classes + bit (can_enter (get_or classes v 0)) = omega (arith, E.counted) in
        c ∙ ap (λ (u : ℕ). enterable_count u classes) (sym s);
    few = omega (arith, E.few);
    within = omega arith;
  }

  pub enterable-one : v < length classes → get_or classes v 0 ≢ 0 → EnterableCounted classes (count + 1) (v + 1)
  enterable-one h n = one_more h 1 (rw (ne_eqb (get_or classes v 0) 0 n)) (omega arith)

  pub enterable-other : v < length classes → get_or classes v 0 ≡ 0 → EnterableCounted classes count (v + 1)
  enterable-other h z =
      let m : count + 0 ≡ count = omega arith in rw m at (one_more h 0 (rw (eq-eqb (get_or classes v 0) 0 z)) (omega arith))

  pub enterable-all : length classes ≤ v → count ≡ enterable_count (length classes) classes
  enterable-all h = let e : v ≡ length classes = omega (arith, E.within) in E.counted ∙ ap (λ (u : ℕ). enterable_count u classes) e

pub enterable-most : (n : ℕ) (classes : List ℕ) → enterable_count n classes ≤ n
enterable-most n classes = omega (
  arith,
  sum_le n (λ v. bit (can_enter (get_or classes v 0))) (λ v. 1) (λ v _. bit-small (can_enter (get_or classes v 0))),
  sum_same n 1,
  mul-one n,
)
