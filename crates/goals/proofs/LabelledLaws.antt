-- Laws of labels: the turn's labels bound every goal's route, and once no goal is left whose label comes before what is kept, what is kept is the first
-- strictly cheapest route.
use Rattle.std.specs.Prelude.{◌≡◌, refl, ◌≢◌, Bool, true, false, ◌||◌, List, ◌++◌, ℕ, ◌+◌, ◌≤◌, ◌<◌, eqb, ltb, length, get_or, set, take, drop, Option, Some, None, Ok, Err, IfSome}
use Rattle.std.proofs.Common.{sym, ◌∙◌, length-set, length-append, get_or-set_same, get_or-set_other, take_at, length-take-le, eqb-true, eq-eqb, ne_eqb, ltb-true, ltb-false}
use native.Mathlib.Omega.{arith}
use Rattle.std.proofs.lemmas.Bool.{eqb-false, not-true}
use Rattle.basics.specs.Tests.{ask, ask_same, ask_less, never}
use Rattle.basics.specs.Sums.{sum_below, sum_less}
use Rattle.room.specs.declared.Room.{Room}
use Rattle.room.specs.declared.RouterConfig.{RouterConfig}
use Rattle.room.specs.declared.Pos.{Pos}
use Rattle.room.specs.Room.{Good, volume, pos_of, above}
use Rattle.room_search.specs.Routing.{can_enter, entering, graph_of}
use Rattle.routing_resources.specs.Marks.{is_marked}
use Rattle.blocked_world.specs.BlockedWorld.{Says}
use Rattle.relaxed.specs.Labels.{Opened, Labelable, TurnLabels}
use Rattle.relaxed.specs.LabelLaws.{way_labelled}
use Rattle.ground.specs.declared.Ground.{Ground}
use Rattle.goals.specs.declared.Found.{Found}
use Rattle.goals.specs.declared.QueueFull.{QueueFull}
use Rattle.goals.specs.declared.Kept.{Kept}
use Rattle.goals.specs.Goals.{Site, found, max_attempts, attempts, tried_goal, route_to_tree, site_task}
use Rattle.goals.specs.Trials.{Tried, told, length_of, Tells, site_of, Attemptable}
use Rattle.goals.specs.Routes.{Conflicts, as_blocked, one_more, Reaches}
use Rattle.goals.specs.NeverFull.{NeverFull}
use Rattle.goals.specs.Passing.{least_at, least_cost, precedes, route_of, bid_of, HoldsRoute, Holds, NotBefore, Passes}
use Rattle.goals.specs.PathLaws.{found-by, found-lawful}
use Rattle.goals.proofs.RouteLaws.{attempts_reach}
use Rattle.goals.specs.EnterLaws.{StillBlocked, still_marked, is_at, enters_for, enters_for_lem}
use Rattle.goals.proofs.LeastLaws.{tried-least}
use Rattle.goals.proofs.GoalLaws.{SameMemory, memory-first, memory-site, memory-next}
use Rattle.goals.specs.declared.Bid.{Bid}
use Rattle.goals.proofs.PassingLaws.{GoalsPassed, not_before, unmarked-yields, passes-on, passes-never, first-failed, first-old, first-new, kept-is}
use Rattle.goals.specs.Labelled.{KeptInside, LabelOf, LabelsOf, bound_at, bound_of, GoalLabels, PassedBelow, Left, HoldsGoal, Passing, AllPassed, KeepsGoal, Tryable, PassesGoal, LeastLabel, LowerLabel, Copies}

-- ---- the turn's labels bound every goal's route

-- what a search for a joinable goal may enter is open
opened_for : {R : Room} {joinable classes bytes : List ℕ} → Opened R joinable classes bytes → (goal : ℕ) → goal < volume R → is_marked joinable goal ≡ true
    → (v : ℕ) → enters_for R classes goal v ≡ true → get_or bytes v 0 ≢ 0
opened_for {R} {joinable} {classes} {bytes} O goal h m v e =
    ask_same v goal
    (λ q. rw q (O.goals goal h m))
    (λ d. above-it (above R goal) refl (rw (ne_eqb v goal d) at e))
  where
    classed : can_enter (get_or classes v 0) ≡ true → get_or bytes v 0 ≢ 0
    classed c = O.as_before v (eqb-false (get_or classes v 0) 0 (not-true (eqb (get_or classes v 0) 0) c))

    above-it : (place : Option ℕ) → above R goal ≡ place → is_at place v || can_enter (get_or classes v 0) ≡ true → get_or bytes v 0 ≢ 0
    above-it None a q = classed q
    above-it (Some u) a q =
        ask_same v u
        (λ s. rw s (O.over-goals goal u h m a))
        (λ d. classed (rw (ne_eqb v u d) at q))

-- conflicts that are blocked one after another leave blocked what was
conflicts-still : {S : Site} {start goal n : ℕ} {blocked later : List ℕ} → Conflicts S start goal n blocked later → StillBlocked blocked later
conflicts-still as_blocked = λ v m. m
conflicts-still {blocked = blocked} (one_more {v = u} w f g c) = λ v m. conflicts-still c v (still_marked (eqb u) blocked v m)

module _ (S : Site) (start : ℕ) (blocked : List ℕ) {classes labels : List ℕ} (good : Good S.room) (start_in : start < volume S.room)
    (long : length S.kinds ≡ volume S.room) (says : Says S.mode S.room S.kinds blocked start start classes)
    (L : TurnLabels S.room S.config S.joinable classes start labels) where
  reached_labelled : (goal : ℕ) → goal < volume S.room → is_marked S.joinable goal ≡ true → {n : ℕ} {path : List ℕ} {cost : ℕ} → Reaches S n blocked start goal path cost
      → (0 < get_or labels goal 0) × (get_or labels goal 0 ≤ cost + 1)
  unfolding graph_of
  reached_labelled goal h m {n} {path} {cost} r =
      let T = site_task S r.blocked-last start goal in
      let way = found-lawful start_in h (found-by T path cost r.found-so) in
      way_labelled S.room S.config (entering T) start goal S.places L.are
      (λ v i n. opened_for L.opened goal h m v
      (enters_for_lem S.mode S.room good S.config S.kinds blocked r.blocked-last start goal S.places long says (conflicts-still r.after) v i n))
      start_in
      way.rest
      goal
      cost
      way.way

  pub labels_bound : (goal : ℕ) → goal < volume S.room → (path : List ℕ) (cost : ℕ) → tried_goal S start blocked goal ≡ found path cost
      → (0 < get_or labels goal 0) × (get_or labels goal 0 ≤ cost + 1)
  unfolding tried_goal
  labels_bound goal h path cost e =
      ask (is_marked S.joinable goal)
      (λ t. reached_labelled goal h t (attempts_reach S start goal max_attempts blocked path cost (rw t at e)))
      (λ f. never (cc (rw f at e)))

-- ---- the goals that are left

module _ (S : Site) (start : ℕ) (blocked : List ℕ) {classes known : List ℕ} (good : Good S.room) (start_in : start < volume S.room)
    (long : length S.kinds ≡ volume S.room) (says : Says S.mode S.room S.kinds blocked start start classes)
    {labelled : Bool} (T : labelled ≡ true → TurnLabels S.room S.config S.joinable classes start known) where
  abbrev from : Pos
  from = pos_of S.room start

  bounded : (goal : ℕ) → goal < volume S.room → (path : List ℕ) (cost : ℕ) → tried_goal S start blocked goal ≡ found path cost
      → (0 < bound_of labelled known S.config S.room from goal) × (bound_of labelled known S.config S.room from goal ≤ cost + 1)
  unfolding least_cost bound_at
  bounded goal h path cost e =
      ask labelled
      (λ t. rw t (labels_bound S start blocked good start_in long says (T t) goal h path cost e))
      (λ f. rw f (omega arith, omega (arith, tried-least S start goal blocked start_in h path cost e)))

  pub goal_labels : {low : ℕ} {labels : List ℕ} → LabelsOf S.config S.room from low S.joinable (bound_of labelled known S.config S.room from) labels (volume S.room)
      → GoalLabels S start blocked low labels
  goal_labels L = record {
    none = λ goal h z m l path cost e.
        let none = (L.each goal h).none z (eqb-true _ _ m) l in
        omega (arith, none, (bounded goal h path cost e).0);
    least = λ goal h d path cost e. omega (arith, ((L.each goal h).some d).0, (bounded goal h path cost e).1);
    joinable = λ goal h d. eq-eqb _ _ ((L.each goal h).some d).1;
  }

pub left-first : {S : Site} {start : ℕ} {blocked best : List ℕ} {K : Option Kept} {low : ℕ} → PassedBelow S start blocked best K low → {labels : List ℕ} → GoalLabels S start blocked low labels
    → length labels ≡ length best → Passing S start blocked labels K
left-first {S} {start} {blocked} {best} {K} {low} P {labels} G long = record {
  labels_long = long ∙ P.best-long;
  never-full = P.never-full;
  held = record { its-path = best; held = P.held };
  left = record {
    yields = λ goal h z. ask (is_marked S.joinable goal)
        (λ m. ask_less (bid_of S.config S.room (pos_of S.room start) goal) low
        (λ l. P.lower goal h m l)
        (λ l. record { yields = λ path cost e. absurd (G.none goal h z m l path cost e) }))
        (λ f. unmarked-yields S start blocked goal K f);
    least = G.least;
    joinable = G.joinable;
  };
}

-- ---- what is kept of a goal that was tried

module _ (K : Option Kept) (goal : ℕ) where
  pub goal-failed : KeepsGoal K goal None K
  goal-failed = record { keeps = λ path best fits. (best, first-failed K goal) }

  module _ (new : Found) where
    pub goal-old : precedes new.cost.0 goal K ≡ false → KeepsGoal K goal (Some new) K
    goal-old e = record { keeps = λ path best fits. (best, first-old K goal new e) }

    pub goal-new : precedes new.cost.0 goal K ≡ true → {K' : Option Kept} → K' ≡ Some (record { found = new; goal = goal }) → KeepsGoal K goal (Some new) K'
    goal-new e k = record { keeps = λ path best fits. (take new.length path ++ drop new.length best, first-new K goal new e fits refl k) }

module _ {S : Site} {start : ℕ} {blocked : List ℕ} {goal : ℕ} (P : Tryable S start blocked goal) where
  pub goal-passes : {tried : Option Found} {path : List ℕ} → Tells (attempts max_attempts S start goal blocked) (Ok tried) path
      → {K K' : Option Kept} → KeepsGoal K goal tried K' → PassesGoal S start blocked goal K (Ok K')
  unfolding tried_goal
  goal-passes {tried} {path} t {K' = K'} keep = record {
    passes = λ best H.
        let k = keep.keeps path best t.fits in
        (k.0, record { kept = K'; is = refl; passes = k.1.keeps S start blocked P.goal_in H (rw P.marked t) (P.never-full.never goal P.goal_in) });
  }

  -- no queue is full
  pub goal-never : {x : QueueFull} {path : List ℕ} → Tells (attempts max_attempts S start goal blocked) (Err x) path → ⊥
  unfolding tried_goal
  goal-never {x} t = P.never-full.never goal P.goal_in x.0.0 (rw P.marked (sym t.is))

-- ---- the lowest label

pub least-none : (labels : List ℕ) → LeastLabel labels 0 None
least-none labels = record { its_label = λ cell q. never (cc); lowest = λ v l. absurd (omega arith) }

pub least-inside : {labels : List ℕ} {n : ℕ} (r : Option ℕ) → LeastLabel labels n r → n ≤ length labels → IfSome r (λ v. v < length labels)
least-inside (Some cell) L h = omega (arith, (L.its_label cell refl).1)
least-inside None L h = tt

module _ {labels : List ℕ} {n : ℕ} {lowest : Option ℕ} (L : LeastLabel labels n lowest) where
  pub least-lower : {r : Bool} → LowerLabel labels lowest n r → r ≡ true → LeastLabel labels (n + 1) (Some n)
  least-lower W e = record {
    its_label = λ cell q. let s : n ≡ cell = cc in rw (← s) ((W.lower e).0, omega arith);
    lowest = λ v h d. ask_same v n
        (λ s. (n, refl, rw s (omega arith), λ l. absurd (omega arith)))
        (λ q. let old = L.lowest v (omega (arith, q, h)) d in
        let less = (W.lower e).1 old.0 old.1 in
        (n, refl, omega (arith, less, old.2), λ l. omega (arith, less, old.2)));
  }

  pub least_other : {r : Bool} → LowerLabel labels lowest n r → r ≡ false → LeastLabel labels (n + 1) lowest
  least_other W e = record {
    its_label = λ cell q. ((L.its_label cell q).0, omega (arith, (L.its_label cell q).1));
    lowest = λ v h d. ask_same v n
        (λ s. let same = W.other e (rw s at d) in (same.0, same.1, rw s same.2, λ l. absurd (omega (arith, s, l, (L.its_label same.0 same.1).1))))
        (λ q. L.lowest v (omega (arith, q, h)) d);
  }

-- ---- goal after goal, the lowest label first

-- what is left while labels are taken
pub record LabelsPassed (S : Site) (start : ℕ) (K : Option Kept) (joinable₀ joinable blocked₀ blocked classes₀ classes known₀ known previous₀ previous path₀ path labels₀ labels queue₀ queue : List ℕ) : Type 0 where
  pub held : HoldsGoal S start blocked₀ K
  pub left : Left S start blocked₀ labels K
  pub same : SameMemory joinable₀ joinable blocked₀ blocked classes₀ classes known₀ known previous₀ previous path₀ path labels₀ labels queue₀ queue

-- the sum of the labels falls
pub label_falls : (labels : List ℕ) (next : ℕ) → next < length labels → get_or labels next 0 ≢ 0 → (n : ℕ) → n ≡ length labels
    → sum_below n (λ v. get_or (set labels next 0) v 0) < sum_below n (λ v. get_or labels v 0)
label_falls labels next h d n e =
    sum_less n next (λ v. get_or (set labels next 0) v 0) (λ v. get_or labels v 0) (rw e h)
    (λ v. ask_same v next (λ s. rw s (omega (arith, zeroed))) (λ q. omega (arith, get_or-set_other labels next v 0 0 (λ s. q s))))
    (omega (arith, d, zeroed))
  where
    zeroed : get_or (set labels next 0) next 0 ≡ 0
    zeroed = get_or-set_same labels next 0 0 h

module _ (ground : Ground) (kinds : List ℕ) (start : ℕ) where
  abbrev R : Room
  R = ground.room

  pub labels_first : (joinable blocked classes known previous path labels queue : List ℕ) {K : Option Kept}
      → Passing (site_of ground kinds joinable queue) start blocked labels K
      → LabelsPassed (site_of ground kinds joinable queue) start K joinable joinable blocked blocked classes classes known known previous previous path path labels labels queue queue
  labels_first joinable blocked classes known previous path labels queue P = record {
    held = P.held;
    left = P.left;
    same = memory-first joinable blocked classes known previous path labels queue;
  }

  module _ {K : Option Kept} {least : Option ℕ}
      {joinable₀ joinable blocked₀ blocked classes₀ classes known₀ known previous₀ previous path₀ path labels₀ labels queue₀ queue : List ℕ}
      (G : LabelsPassed (site_of ground kinds joinable₀ queue₀) start K joinable₀ joinable blocked₀ blocked classes₀ classes known₀ known previous₀ previous path₀ path labels₀ labels queue₀ queue)
      (N : LeastLabel labels (length labels) least) (long : length labels₀ ≡ volume R) where
    now-long : length labels ≡ volume R
    now-long = G.same.best-long ∙ long

    -- no goal is left
    pub labels_done : least ≡ None → AllPassed (site_of ground kinds joinable₀ queue₀) start blocked₀ K
    labels_done e = record {
      held = G.held;
      all = λ other i. ask_same (get_or labels other 0) 0
          (λ z. G.left.yields other i z)
          (λ d. never (cc (sym e ∙ (N.lowest other (omega (arith, i, now-long)) d).1)));
    }

    module _ {next : ℕ} (is-next : least ≡ Some next) where
      pub next_label : get_or labels next 0 ≢ 0
      next_label = (N.its_label next is-next).0

      pub next_in : next < length labels
      next_in = (N.its_label next is-next).1

      lowest-next : (v : ℕ) → v < volume R → get_or labels v 0 ≢ 0 → (get_or labels next 0 ≤ get_or labels v 0) × (v < next → get_or labels next 0 < get_or labels v 0)
      lowest-next v i d =
          let l = N.lowest v (omega (arith, i, now-long)) d in
          let same : l.0 ≡ next = cc (sym l.1 ∙ is-next) in
          rw (← same) (l.2, l.3)

      pub next_tryable : NeverFull (site_of ground kinds joinable₀ queue₀) start blocked₀ → Tryable (site_of ground kinds joinable queue) start blocked next
      next_tryable F = rw (memory-site ground kinds G.same, G.same.blocked-is) (record {
        goal_in = omega (arith, next_in, now-long);
        marked = G.left.joinable next (omega (arith, next_in, now-long)) next_label;
        never-full = F;
      })

      pub labels_passed : {K' : Option Kept} {joinable' blocked' classes' known' previous' path' queue' : List ℕ}
          → PassesGoal (site_of ground kinds joinable queue) start blocked next K (Ok K')
          → (joinable' ≡ joinable) × (blocked' ≡ blocked) × (classes' ≡ classes)
          → length known' ≡ length known → length previous' ≡ length previous → length path' ≡ length path → length queue' ≡ length queue
          → LabelsPassed (site_of ground kinds joinable₀ queue₀) start K' joinable₀ joinable' blocked₀ blocked' classes₀ classes' known₀ known' previous₀ previous' path₀ path' labels₀ (set labels next 0) queue₀ queue'
      labels_passed {K'} passes kept k p q u = record {
        held = record { its-path = came.0; held = came.1.held };
        left = record {
          yields = λ goal i z. ask_same goal next
              (λ s. rw s came.1.yields)
              (λ d. came.1.still goal (G.left.yields goal i (sym (other goal d) ∙ z)));
          least = λ goal i z path' cost e. rw (other goal (differs goal z)) (G.left.least goal i (λ n. z (other goal (differs goal z) ∙ n)) path' cost e);
          joinable = λ goal i z. G.left.joinable goal i (λ n. z (other goal (differs goal z) ∙ n));
        };
        same = memory-next G.same kept k p q (length-set labels next 0) u;
      }
        where
          came : (best' : List ℕ) × Passes (site_of ground kinds joinable₀ queue₀) start blocked₀ next K K' best'
          came =
              let c = (rw (memory-site ground kinds G.same, G.same.blocked-is) at passes).passes G.held.its-path G.held.held in
              (c.0, passes-on c.1 refl)

          other : (goal : ℕ) → goal ≢ next → get_or (set labels next 0) goal 0 ≡ get_or labels goal 0
          other goal d = get_or-set_other labels next goal 0 0 (λ s. d s)

          differs : (goal : ℕ) → get_or (set labels next 0) goal 0 ≢ 0 → goal ≢ next
          differs goal z s = z (rw s (get_or-set_same labels next 0 0 next_in))

      -- no queue is full
      pub labels_never : {x : QueueFull} → PassesGoal (site_of ground kinds joinable queue) start blocked next K (Err x) → ⊥
      labels_never passes = passes-never ((rw (memory-site ground kinds G.same, G.same.blocked-is) at passes).passes G.held.its-path G.held.held).1 refl

      -- the lowest label does not come before what is kept
      pub labels_beaten : (label : ℕ) → label + 1 ≡ get_or labels next 0 → precedes label next K ≡ false
          → AllPassed (site_of ground kinds joinable₀ queue₀) start blocked₀ K
      labels_beaten label e f = record {
        held = G.held;
        all = λ other i. ask_same (get_or labels other 0) 0
            (λ z. G.left.yields other i z)
            (λ d. let low = lowest-next other i d in
            record {
              yields = λ path' cost r.
                  let most = G.left.least other i d path' cost r in
                  later K label cost next other
                  (not_before K label next f)
                  (omega (arith, e, most, low.0))
                  (λ l. omega (arith, e, most, low.1 l));
            });
      }
        where
          later : (K : Option Kept) (label cost next other : ℕ) → NotBefore K label next → label ≤ cost → (other < next → label < cost) → NotBefore K cost other
          later (Some k) label cost next other N h l =
              (omega (arith, N.0), λ o. ask_less next k.goal (λ b. omega (arith, N.1 b)) (λ b. omega (arith, N.0, l (omega arith))))
          later None label cost next other N h l = N

-- ---- the path of what is kept

module _ {S : Site} {start : ℕ} {blocked : List ℕ} {K : Option Kept} (F : NeverFull S start blocked) (A : AllPassed S start blocked K) where
  kept-tells : Tells (route_to_tree S start blocked) (Ok (route_of K)) A.held.its-path
  kept-tells = kept-is S start blocked A.held.its-path F K A.held.held A.all

  -- no route is kept
  pub fetched_none : K ≡ None → (best : List ℕ) → Tells (route_to_tree S start blocked) (Ok None) best
  fetched_none e best = let t = rw e at kept-tells in record { is = t.is; fits = omega arith }

  module _ {k : Kept} (e : K ≡ Some k) where
    route-held : HoldsRoute S start blocked A.held.its-path (Some k)
    route-held = rw e at A.held.held.holds

    pub fetched_goal : k.goal < volume S.room
    fetched_goal = route-held.0

    -- where its searches are made once more, no queue is full
    pub fetched_never : {x : QueueFull} {path : List ℕ} → Tells (attempts max_attempts S start k.goal blocked) (Err x) path → ⊥
    unfolding tried_goal
    fetched_never t =
        ask (is_marked S.joinable k.goal)
        (λ m. never (cc (t.is ∙ rw m at route-held.1)))
        (λ f. never (cc (rw f at route-held.1)))

    -- and the kept route's goal comes to it again
    pub fetched_route : {tried : Tried} {path best' : List ℕ} → Tells (attempts max_attempts S start k.goal blocked) tried path → Copies tried path best'
        → Tells (route_to_tree S start blocked) tried best'
    unfolding tried_goal
    fetched_route {tried} {path} {best'} t copy =
        ask (is_marked S.joinable k.goal)
        (λ m. copy.tells _ (record { is = t.is ∙ (rw m at route-held.1) ∙ (rw e at kept-tells).is; fits = t.fits }))
        (λ f. never (cc (rw f at route-held.1)))

-- ---- between the calls: what is said of marks and memory as they were is said of them as they are, and back

module _ (ground : Ground) (kinds : List ℕ) {joinable₀ joinable blocked₀ blocked classes₀ classes known₀ known previous₀ previous path₀ path best₀ best queue₀ queue : List ℕ}
    (M : SameMemory joinable₀ joinable blocked₀ blocked classes₀ classes known₀ known previous₀ previous path₀ path best₀ best queue₀ queue) (start : ℕ) where
  pub memory-never : NeverFull (site_of ground kinds joinable₀ queue₀) start blocked₀ → NeverFull (site_of ground kinds joinable queue) start blocked
  memory-never F = rw (memory-site ground kinds M, M.blocked-is) F

  pub memory-all : {K : Option Kept} → AllPassed (site_of ground kinds joinable₀ queue₀) start blocked₀ K → AllPassed (site_of ground kinds joinable queue) start blocked K
  memory-all A = rw (memory-site ground kinds M, M.blocked-is) A

  pub memory_passing : {labels : List ℕ} {K : Option Kept} → Passing (site_of ground kinds joinable₀ queue₀) start blocked₀ labels K → Passing (site_of ground kinds joinable queue) start blocked labels K
  memory_passing P = rw (memory-site ground kinds M, M.blocked-is) P

  pub memory-below : {cells : List ℕ} {K : Option Kept} {low : ℕ} → PassedBelow (site_of ground kinds joinable₀ queue₀) start blocked₀ cells K low → PassedBelow (site_of ground kinds joinable queue) start blocked cells K low
  memory-below P = rw (memory-site ground kinds M, M.blocked-is) P

  pub memory-told : {r : Tried} {cells : List ℕ} → Tells (route_to_tree (site_of ground kinds joinable queue) start blocked) r cells
      → Tells (route_to_tree (site_of ground kinds joinable₀ queue₀) start blocked₀) r cells
  memory-told t = rw (memory-site ground kinds M, M.blocked-is) at t

-- ---- from bids to labels

-- what a goal's attempts ask is enough to label the cells
pub able_labels : (ground : Ground) (kinds joinable blocked classes known previous path queue : List ℕ) (start : ℕ)
    → Attemptable (site_of ground kinds joinable queue) blocked classes known previous path start start → Labelable ground kinds joinable blocked classes known previous queue start
able_labels ground kinds joinable blocked classes known previous path queue start A = record {
  good = A.grounds.good;
  config-good = A.grounds.config-good;
  kinds-long = A.grounds.kinds-long;
  joinable-long = A.grounds.joinable-long;
  blocked-long = A.grounds.blocked-long;
  known-long = A.memory.known-long;
  previous-long = A.memory.previous-long;
  start_in = A.grounds.start_in;
  places-some = A.grounds.places-some;
  says = A.says;
}

pub kept-inside : {S : Site} {start : ℕ} {blocked best : List ℕ} {K : Option Kept} → Holds S start blocked best K → KeptInside S.room K
kept-inside {K = Some k} H = H.holds.0
kept-inside {K = None} H = tt

module _ (ground : Ground) (kinds : List ℕ) {start : ℕ} {t : Option Bid} {b : Bid} (q : t ≡ Some b) {K : Option Kept}
    {joinable₀ joinable blocked₀ blocked classes₀ classes known₀ known previous₀ previous path₀ path best₀ best queue₀ queue : List ℕ}
    (G : GoalsPassed (site_of ground kinds joinable₀ queue₀) start t K joinable₀ joinable blocked₀ blocked classes₀ classes known₀ known previous₀ previous path₀ path best₀ best queue₀ queue) where
  pub bids_passed : length best₀ ≡ volume ground.room → NeverFull (site_of ground kinds joinable₀ queue₀) start blocked₀
      → PassedBelow (site_of ground kinds joinable queue) start blocked best K b.bid
  bids_passed long F = memory-below ground kinds G.same start (record {
    best-long = G.same.best-long ∙ long;
    never-full = F;
    held = G.held;
    lower = λ other i m l. G.lower other i m (rw q l);
  })
