-- WHAT ANY ROUTE COSTS AT LEAST: each step goes one cell aside and at most one up or down, a flat one costs at least the horizontal cost, any other at
-- least the stair cost. So a goal's route is never cheaper than `least_cost`, at any costs and whatever is blocked.
use Rattle.std.specs.Prelude.{◌≡◌, refl, false, ℕ, ◌+◌, ◌-◌, ◌*◌, ◌^◌, ◌≤◌, ◌<◌, min}
use Rattle.std.proofs.Math.Bool.{true}
use mathlib.Core.List.{List, [], ◌∷◌}
use Rattle.std.proofs.Common.{add-mul, mul-le-mul, mul-le-mul_right}
use Rattle.std.proofs.Math.Nat.{min-le_left, min-le_right}
use native.Mathlib.Omega.{arith}
use borrow.Author.Tests.{eqb-true, eqb-false}
use Rattle.basics.specs.Tests.{ask, ask_less, never}
use Rattle.room.specs.declared.Room.{Room}
use Rattle.room.specs.declared.Pos.{Pos}
use Rattle.room.specs.declared.Move.{Move}
use Rattle.room.specs.declared.RouterConfig.{RouterConfig}
use Rattle.room.specs.Room.{Good, SmallPos, max_side, max_volume, volume, pos_of, apart, flat}
use Rattle.room.specs.RoomLaws.{small_pos}
use Rattle.room.specs.Units.{max_cost, GoodRanges}
use Rattle.room.specs.MoveLaws.{Moved, Small, small, leads}
use Rattle.best_first.specs.Ways.{Way}
use Rattle.room_search.specs.Routing.{Task, price_of, total, graph_of, graph, entering}
use Rattle.room_search.specs.GraphLaws.{StepBy, step_by}
use Rattle.routing_resources.specs.Marks.{is_marked}
use Rattle.goals.specs.Goals.{Site, found, max_attempts, tried_goal, site_task}
use Rattle.goals.specs.Passing.{least_for, least_at, least_cost, bid_of, no_bid}
use Rattle.goals.specs.Routes.{Reaches}
use Rattle.goals.specs.PathLaws.{found-by, found-lawful}
use Rattle.goals.proofs.RouteLaws.{attempts_reach}

-- as it is computed: sides and costs are small
pub apart-few : (a b : ℕ) {r : ℕ} → r ≡ apart a b → a < max_side → b < max_side → r ≤ max_side
apart-few a b e h k = omega arith

pub rest-few : (x z up : ℕ) {rest : ℕ} → rest ≡ x + z - up → x ≤ max_side → z ≤ max_side → rest ≤ 2 * max_side
rest-few x z up e h k = omega arith

pub product_few : (most : ℕ) {a b : ℕ} → a ≤ most → b ≤ max_cost → a * b ≤ most * max_cost
product_few most h k = mul-le-mul h k

pub least-is : (C : RouterConfig) (p q : Pos) {up x z rest cheaper : ℕ} → up ≡ apart p.y q.y → x ≡ apart p.x q.x → z ≡ apart p.z q.z
    → rest ≡ x + z - up → cheaper ≡ min C.horizontal.0 C.stair.0 → up * C.stair.0 + rest * cheaper ≡ least_at C p q
unfolding least_at
least-is C p q u x z r k = rw (r, u, x, z, k)

-- it is small, and so is a bid
least-few : {C : RouterConfig} → GoodRanges C → (p q : Pos) → SmallPos p → SmallPos q → least_at C p q < 2 ^ 32
unfolding least_at
least-few {C} F p q s t =
    let up = product_few max_side (apart-few p.y q.y refl s.y_small t.y_small) F.stair_most in
    let x = apart-few p.x q.x refl s.x_small t.x_small in
    let z = apart-few p.z q.z refl s.z_small t.z_small in
    let cheaper : min C.horizontal.0 C.stair.0 ≤ max_cost = le_trans (min-le_right C.horizontal.0 C.stair.0) F.stair_most in
    sum-few up (product_few (2 * max_side) (rest-few (apart p.x q.x) (apart p.z q.z) (apart p.y q.y) refl x z) cheaper)
  where
    sum-few : {a b : ℕ} → a ≤ max_side * max_cost → b ≤ 2 * max_side * max_cost → a + b < 2 ^ 32
    sum-few h k = omega arith

    le_trans : {a b c : ℕ} → a ≤ b → b ≤ c → a ≤ c
    le_trans h k = omega arith

pub bid_few : {C : RouterConfig} {R : Room} → GoodRanges C → Good R → (from : Pos) → SmallPos from → (goal : ℕ) → goal < volume R → bid_of C R from goal < no_bid
unfolding bid_of
bid_few {C} {R} F G from s goal h = small (least-few F from (pos_of R goal) s (small_pos R G goal h (pos_of R goal) refl)) h G.few
  where
    small : {a : ℕ} → a < 2 ^ 32 → goal < volume R → volume R ≤ max_volume → a * max_volume + goal < no_bid
    small h k l = omega arith

-- ---- it falls by at most a step's cost

more-times : (a b n k : ℕ) → a ≤ b + n → a * k ≤ b * k + n * k
more-times a b n k h = rw (add-mul b n k) at (mul-le-mul_right k h)

module _ (stair cheaper up up' aside aside' : ℕ) (one : aside ≤ aside' + 1) where
  level-falls : up ≡ up' → least_for stair cheaper up aside ≤ least_for stair cheaper up' aside' + cheaper
  level-falls e = rw e (omega (arith, more-times (aside - up') (aside' - up') 1 cheaper (omega arith)))

  nearer-falls : up ≡ up' + 1 → least_for stair cheaper up aside ≤ least_for stair cheaper up' aside' + stair
  nearer-falls e = rw e (omega (arith, add-mul up' 1 stair, more-times (aside - (up' + 1)) (aside' - up') 0 cheaper (omega arith)))

  farther_falls : cheaper ≤ stair → up' ≡ up + 1 → least_for stair cheaper up aside ≤ least_for stair cheaper up' aside' + stair
  farther_falls c e = rw e (omega (arith, add-mul up 1 stair, more-times (aside - up) (aside' - (up + 1)) 2 cheaper (omega arith)))

-- in one direction
shift_one : (a o g t : ℕ) → t + 1 ≡ a + o → apart a g ≤ apart t g + apart o 1
shift_one a o g t e = omega arith

module _ (C : RouterConfig) (p : Pos) (m : Move) (q g : Pos) (s : Small m) (v : Moved p m q) (class : ℕ) where
  aside-falls : apart p.x g.x + apart p.z g.z ≤ apart q.x g.x + apart q.z g.z + 1
  aside-falls = omega (arith, s.aside, shift_one p.x m.x g.x q.x v.x_by, shift_one p.z m.z g.z q.z v.z_by)

  abbrev cheaper : ℕ
  cheaper = min C.horizontal.0 C.stair.0

  pub least-falls : least_at C p g ≤ least_at C q g + total (price_of C m class)
  unfolding least_at price_of
  least-falls =
      ask (flat m)
      (λ t. rw t (let level : apart p.y g.y ≡ apart q.y g.y = rise-none t in
      omega (arith, min-le_left C.horizontal.0 C.stair.0, level-falls C.stair.0 cheaper _ _ _ _ aside-falls level)))
      (λ f. rw f (ask_less (apart p.y g.y) (apart q.y g.y)
      (λ h. omega (arith, farther_falls C.stair.0 cheaper _ _ _ _ aside-falls (min-le_right C.horizontal.0 C.stair.0) (rise-more f h)))
      (λ h. omega (arith, nearer-falls C.stair.0 cheaper _ _ _ _ aside-falls (rise-less f h)))))
    where
      rise-none : flat m ≡ true → apart p.y g.y ≡ apart q.y g.y
      rise-none t = omega (arith, v.y_by, eqb-true m.y 1 t)

      rise-more : flat m ≡ false → apart p.y g.y < apart q.y g.y → apart q.y g.y ≡ apart p.y g.y + 1
      rise-more f h = omega (arith, v.y_by, s.y_small)

      rise-less : flat m ≡ false → apart q.y g.y ≤ apart p.y g.y → apart p.y g.y ≡ apart q.y g.y + 1
      rise-less f h = omega (arith, v.y_by, s.y_small, eqb-false m.y 1 f)

-- ---- so no way is cheaper

least-none : (C : RouterConfig) (p : Pos) → least_at C p p ≡ 0
unfolding least_at
least-none C p =
    let x : apart p.x p.x ≡ 0 = omega arith in
    let y : apart p.y p.y ≡ 0 = omega arith in
    let z : apart p.z p.z ≡ 0 = omega arith in rw (x, y, z) (omega arith)

module _ (T : Task) where
  way-least : (l : List ℕ) (u t d : ℕ) → Way (graph T) u l t d → least_cost T.room T.config u t ≤ d
  unfolding least_cost
  way-least [] u t d w = rw w.0 (omega (arith, least-none T.config (pos_of T.room t)))
  way-least (v ∷ l) u t d w = go (step_by T u v w.0 w.2) (way-least l v t w.1 w.3)
    where
      go : StepBy T u v w.0 → least_cost T.room T.config v t ≤ w.1 → least_cost T.room T.config u t ≤ d
      go s later =
          omega (
            arith,
            later,
            w.4,
            s.cost-is,
            least-falls T.config (pos_of T.room u) s.by (pos_of T.room v) (pos_of T.room t) (small s.by s.listed) (leads T.room u s.by v s.leads_in).moved (entering T v),
          )

-- ---- nor any goal's route

module _ (S : Site) (start goal : ℕ) (blocked : List ℕ) (start_in : start < volume S.room) (goal_in : goal < volume S.room) where
  reached-least : {n : ℕ} {path : List ℕ} {cost : ℕ} → Reaches S n blocked start goal path cost → least_cost S.room S.config start goal ≤ cost
  unfolding graph_of
  reached-least {n} {path} {cost} r =
      let T = site_task S r.blocked-last start goal in
      let way = found-lawful start_in goal_in (found-by T path cost r.found-so) in
      way-least T way.rest start goal cost way.way

  pub tried-least : (path : List ℕ) (cost : ℕ) → tried_goal S start blocked goal ≡ found path cost → least_cost S.room S.config start goal ≤ cost
  unfolding tried_goal
  tried-least path cost e =
      ask (is_marked S.joinable goal)
      (λ t. reached-least (attempts_reach S start goal max_attempts blocked path cost (rw t at e)))
      (λ f. never (cc (rw f at e)))
