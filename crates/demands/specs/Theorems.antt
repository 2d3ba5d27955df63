-- THE THIRD DEMAND, said of rooms: their kinds, costs and ends. Statements says what is claimed; the search over any graph has its own theorems,
-- and Bridge shows that the moves of a room's graph are the lawful steps at their costs.
use Rattle.std.specs.Prelude.{◌≡◌, ◌⊎◌, ◌≢◌, ◌↔◌, List, ℕ, suc, ◌+◌, ◌-◌, ◌*◌, ◌^◌, ◌≤◌, ◌<◌, max, eqb, Ok, Err}
use Rattle.std.proofs.Math.Path.{refl, sym, subst}
use Rattle.std.proofs.Common.{ap, ◌∙◌, zero-le, arith}
use Rattle.std.proofs.Math.Logic.{inl, inr}
use Rattle.numbers.specs.Refusals.{done_number, no_route_number, limit_passed_number, queue_full_number}
use Rattle.basics.specs.Tests.{ask, never}
use Rattle.room.specs.declared.Room.{Room}
use Rattle.room.specs.Room.{Good, volume}
use Rattle.basics.specs.Counts.{times}
use Rattle.best_first.specs.Search.{State, Taken, on, one_more_expanded, Answer, route, no_route, limit-passed, queue-full}
use Rattle.best_first.specs.Ways.{GraphStep, Way, Sound, Consistent}
use Rattle.best_first.specs.Statements.{Honest, Right, Decided, by-route, by_no_route, expanded_of, known_at, Taking, outcome, Reached, pushes, Slacks}
use Rattle.best_first.proofs.Theorems as any-graph
use Rattle.routing.specs.declared.Refusal.{Refusal}
use Rattle.routing.specs.declared.Refusal.TheVariants.{Sides, Config, Buffer, Code, Position}
use Rattle.routing.specs.declared.Route.{Route}
use Rattle.routing.specs.Answers as public
use Rattle.routing.specs.declared.Unrouted.TheVariants.{Refused, NotRouteable, NoRoute, LimitPassed, QueueFull}
use Rattle.room_search.specs.Routing.{Task, routeable, entering, graph_of, graph, searched}
use Rattle.room.specs.Units.{dearest, max_nodes, GoodConfig}
use Rattle.room.specs.UnitLaws.{max_estimate, sums_fit}
use Rattle.room_search.specs.GraphLaws.{sound, consistent}
use Rattle.demands.specs.Lawful.{LawfulStep, step_cost, LawfulWay, way_cost}
use Rattle.routing.specs.Answers.{Input, task_of, judged, answered, fit_answer, answer_of, number_of, route_cost, Promise, Judgement}
use Rattle.routing.specs.PromiseLaws.{admitted}
use Rattle.demands.specs.Statements.{Posed, Priced, Ample, Enough, Lawful, Cheapest, NoLawfulWay, expanded_for, Unrefused, RouteHeld, Meaning}
use Rattle.demands.specs.Numbers.{number_no_route, number-full, number-settled, same-expanded}
use Rattle.demands.specs.LimitLaws.{limit-never-full}
use Rattle.demands.specs.Bridge.{step-lawful, lawful-step, way-lawful, lawful-way}
use Rattle.room_search.specs.Slackness.{slacks}

module _ {T : Task} (P : Posed T) where
  -- ---- the graph that is searched is the room's

  -- a move of the graph is a lawful step, and its cost is that of the step
  pub steps-exactly : (u v c : ℕ) → GraphStep (graph T) u v c ↔ (LawfulStep T u v × (c ≡ step_cost T u v))
  steps-exactly u v c = (step-lawful T u v c, λ s. rw s.1 (lawful-step T P.good u v s.0))

  -- so is a way
  pub ways_exactly : (after : List ℕ) (d : ℕ) → Way (graph T) T.start after T.goal d ↔ (LawfulWay T after × (d ≡ way_cost T after))
  ways_exactly after d = (there, λ w. rw w.1 (lawful-way T P.good after T.start T.goal w.0.leads))
    where
      there : Way (graph T) T.start after T.goal d → LawfulWay T after × (d ≡ way_cost T after)
      there w =
          let l = way-lawful T after T.start T.goal d w in
          (record { start_in = P.start_in; start-free = P.start-free; goal-free = P.goal-free; leads = l.0 }, l.1)

  -- ---- at any costs

  graph-sound : Sound (graph T) 12 (dearest T.config)
  graph-sound = sound T.room T.config (entering T) T.start T.goal T.places P.start_in P.goal_in

  honest : {a : Answer} → searched T ≡ a → Honest (graph T) T.config.limit.0 a
  unfolding searched
  honest e = subst (λ (a : Answer). Honest (graph T) T.config.limit.0 a) e (any-graph.honest graph-sound T.config.limit.0)

  -- a route answered is lawful, and its steps add up to its cost
  pub route-lawful : {path : List ℕ} {cost x : ℕ} → searched T ≡ route path cost x → Lawful T path cost
  unfolding graph_of
  route-lawful {path} {cost} e =
      let h = honest e in
      let w = (ways_exactly h.rest cost).0 h.way in
      record { after = h.rest; begins = h.begins; lawful = w.0; adds-up = sym w.1 }

  -- "no route" is answered only where there is no lawful way
  pub no_route_true : {x : ℕ} → searched T ≡ no_route x → NoLawfulWay T
  unfolding graph_of
  no_route_true e after w = honest e after (way_cost T after) ((ways_exactly after (way_cost T after)).1 (w, refl))

  -- the count that passes the node limit is one above it
  pub limit-passed-by-one : {x : ℕ} → searched T ≡ limit-passed x → x ≡ T.config.limit.0 + 1
  limit-passed-by-one e = honest e

  -- no known cost is above the cells less one times the dearer step with a new support (`known_at` is the known cost + 1, and 0 where there is none)
  pub known-most : {pushed : List ℕ} {s : State} → Reached (graph T) pushed s → (v : ℕ)
      → known_at s v ≤ (volume T.room - 1) * (max T.config.horizontal.0 T.config.stair.0 + T.config.support.0) + 1
  unfolding graph_of dearest
  known-most r v = (any-graph.in_range graph-sound r).cost v

  -- so that, with its estimate, it fits 32 bits wherever number 3 is not due
  pub known-fits : GoodConfig T.room T.config → {pushed : List ℕ} {s : State} → Reached (graph T) pushed s → (v : ℕ) → known_at s v + max_estimate < 2 ^ 32
  unfolding graph_of
  known-fits F r v = omega (arith, (any-graph.in_range graph-sound r).cost v, sums_fit F {n = volume T.room - 1} (omega arith))

  -- an old entry, one of another cost than its cell has now, pushes nothing when it is taken
  pub old-entry : {pushed : List ℕ} {s : State} {t : Taken} → Reached (graph T) pushed s → Taking s.waiting t
      → suc t.next.key ≢ known_at s t.next.cell + (graph T).estimate t.next.cell → outcome (graph T) s t.next t.left ≡ on (one_more_expanded s t.left)
  old-entry = any-graph.old-entry graph-sound

  -- ---- where a flat step costs at least 10 and a stair at least 20

  module _ (D : Priced T.config) where
    estimate-falls : Consistent (graph T)
    estimate-falls = consistent T.room T.config (entering T) T.start T.goal T.places D.flat-least D.stair_least

    five-slacks : Slacks (graph T) 5
    five-slacks = slacks T.room T.config (entering T) T.start T.goal T.places D.flat-least D.stair_least

    -- no lawful way is cheaper than a route answered
    pub route-cheapest : {path : List ℕ} {cost x : ℕ} → searched T ≡ route path cost x → Cheapest T cost
    unfolding searched graph_of
    route-cheapest {path} {cost} {x} e after w =
        let r : Right (graph T) 12 T.config.limit.0 (route path cost x) = rw e at (any-graph.demand graph-sound estimate-falls T.config.limit.0) in
        r.1 after (way_cost T after) ((ways_exactly after (way_cost T after)).1 (w, refl))

    -- a cell is pushed at most 5 times
    pub pushed-few : (v : ℕ) → times (eqb v) (pushes (graph T) T.config.limit.0) ≤ 5
    pushed-few = any-graph.slacks-cell graph-sound estimate-falls five-slacks T.config.limit.0

    -- at most 5 cells are expanded for each cell but the start, and the start
    pub expanded-few : expanded_of (searched T) ≤ 5 * (volume T.room - 1) + 1
    unfolding searched graph_of
    expanded-few = any-graph.slacks-expanded graph-sound estimate-falls five-slacks T.config.limit.0

    -- "The search expands at most 12 cells per cell of the room"
    pub expanded-twelve : expanded_of (searched T) ≤ 12 * volume T.room
    expanded-twelve = omega (arith, expanded-few, P.start_in)

    -- a queue of 5 places for each cell but the start is never full
    pub never-full : 5 * (volume T.room - 1) ≤ T.places → (x : ℕ) → searched T ≢ queue-full x
    unfolding searched graph_of
    never-full = any-graph.slacks-places graph-sound estimate-falls five-slacks T.config.limit.0

    -- and a node limit of as many cells, and the start, is never passed
    pub never-passed : 5 * (volume T.room - 1) + 1 ≤ T.config.limit.0 → (x : ℕ) → searched T ≢ limit-passed x
    never-passed h x e = omega (arith, limit-passed-by-one e, expanded-few, ap expanded_of e)

    -- ---- with a node limit and a queue that are enough

    module _ (E : Enough T.room T.config T.places) where
      -- a route or "no route" is answered
      pub settled : Decided (searched T)
      settled = go (searched T) refl
        where
          go : (a : Answer) → searched T ≡ a → Decided a
          go (route path cost x) e = by-route path cost x
          go (no_route x) e = by_no_route x
          go (limit-passed x) e = absurd (never-passed E.limit-enough x e)
          go (queue-full x) e = absurd (never-full E.queue-enough x e)

      -- "no route" comes exactly when no lawful way exists
      pub no_route_exactly : ((x : ℕ) × (searched T ≡ no_route x)) ↔ NoLawfulWay T
      no_route_exactly = (λ r. no_route_true r.1, λ n. go n (searched T) refl settled)
        where
          go : NoLawfulWay T → (a : Answer) → searched T ≡ a → Decided a → (x : ℕ) × (a ≡ no_route x)
          go n (route path cost x) e d = let l = route-lawful e in absurd (n l.after l.lawful)
          go n (no_route x) e d = (x, refl)
          go n (limit-passed x) e d = elim d [ ]
          go n (queue-full x) e d = elim d [ ]

  -- "a node limit and queue of that size or more", 12 for each cell, are enough
  pub ample-enough : Ample T → Enough T.room T.config T.places
  ample-enough A = record { limit-enough = omega (arith, A.limit-wide, P.start_in); queue-enough = omega (arith, A.queue-wide) }

-- and no room's node limit of that size is refused
pub ample-allowed : {R : Room} → Good R → 12 * volume R ≤ max_nodes
ample-allowed G = omega (arith, G.few)

-- ---- the public search, from its promise alone

-- an answer that comes of no search: its number is from 2 to 10, and nothing was expanded
pub record Unsearched (a : public.Answer) : Type 0 where
  pub some : 2 ≤ number_of a
  pub small : number_of a ≤ 10
  pub none-expanded : expanded_for a ≡ 0

unsearched_refused : (why : Refusal) → Unsearched (Err (Refused why))
unsearched_refused Sides = record { some = omega arith; small = omega arith; none-expanded = refl }
unsearched_refused Config = record { some = omega arith; small = omega arith; none-expanded = refl }
unsearched_refused Buffer = record { some = omega arith; small = omega arith; none-expanded = refl }
unsearched_refused Code = record { some = omega arith; small = omega arith; none-expanded = refl }
unsearched_refused Position = record { some = omega arith; small = omega arith; none-expanded = refl }

unsearched_end : (cell : ℕ) → Unsearched (Err (NotRouteable cell))
unsearched_end cell = record { some = omega arith; small = omega arith; none-expanded = refl }

-- a route's length, 0 where there is none
abbrev length_told : public.Answer → ℕ
length_told (Ok w) = w.length
length_told (Err e) = 0

module _ (I : Input) where
  module _ (U : Unrefused I) where
    pub ready : Posed (task_of I)
    ready =
        let r = admitted {R = I.room} {C = I.config} {kinds = I.kinds} {start = I.start} {goal = I.goal} {L = I.lengths} U.fit in
        record { good = r.good; start_in = r.start_in; goal_in = r.goal_in; start-free = U.start-free; goal-free = U.goal-free }

    pub said : answer_of I ≡ answered (task_of I) (searched (task_of I))
    unfolding answer_of fit_answer
    said = rw (U.fit, U.start-free, U.goal-free)

  -- it is searched, or its number is from 2 to 10
  pub searched_or_not : Unrefused I ⊎ Unsearched (answer_of I)
  unfolding answer_of fit_answer
  searched_or_not = go (judged I) refl
    where
      go : (j : Judgement) → judged I ≡ j → Unrefused I ⊎ Unsearched (answer_of I)
      go (Err why) e = inr (rw e (unsearched_refused why))
      go (Ok _) e =
          ask (routeable (task_of I) I.start)
          (λ s. ask (routeable (task_of I) I.goal)
          (λ g. inl (record { fit = e; start-free = s; goal-free = g }))
          (λ g. inr (rw (e, s, g) (unsearched_end I.goal))))
          (λ s. inr (rw (e, s) (unsearched_end I.start)))

  module _ {path known previous classes queue : List ℕ} {r : public.Answer} {path' known' previous' classes' queue' : List ℕ}
      (K : Promise I path known previous classes queue r path' known' previous' classes' queue') where
    as_route : (w : Route) → r ≡ Ok w → Unrefused I ⊎ Unsearched (answer_of I) → RouteHeld I path w path'
    as_route w z (inr n) = absurd (omega (arith, n.some, ap number_of (sym K.answer ∙ z)))
    as_route w z (inl U) = go (searched (task_of I)) refl (sym (said U) ∙ sym K.answer ∙ z)
      where
        go : (a : Answer) → searched (task_of I) ≡ a → answered (task_of I) a ≡ Ok w → RouteHeld I path w path'
        go (route cells cost x) e q =
            let c : cost ≡ w.cost.0 = ap route_cost q in
            record {
              cells = cells;
              path-is = rw (said U, e, e) at K.path-is;
              length_is = sym (ap length_told q);
              lawful = rw (← c) (route-lawful (ready U) e);
              cheapest = λ D. rw (← c) (route-cheapest (ready U) D e);
            }
        go (no_route x) e q = never (cc)
        go (limit-passed x) e q = never (cc)
        go (queue-full x) e q = never (cc)

    no_route_so : number_of r ≡ no_route_number → Unrefused I ⊎ Unsearched (answer_of I) → NoLawfulWay (task_of I)
    no_route_so z (inr n) = absurd (omega (arith, n.small, ap number_of (sym K.answer), z))
    no_route_so z (inl U) = no_route_true (ready U) (number_no_route (task_of I) (searched (task_of I)) (ap number_of (sym (said U) ∙ sym K.answer) ∙ z)).1

    no_limit_so : Priced I.config → Enough I.room I.config (task_of I).places → Unrefused I ⊎ Unsearched (answer_of I)
        → (number_of r ≢ limit_passed_number) × (number_of r ≢ queue_full_number)
    no_limit_so D E (inr n) = ((λ z. omega (arith, n.small, ap number_of K.answer, z)), (λ z. omega (arith, n.small, ap number_of K.answer, z)))
    no_limit_so D E (inl U) = go (number-settled (task_of I) (settled (ready U) D E))
      where
        is : number_of r ≡ number_of (answered (task_of I) (searched (task_of I)))
        is = ap number_of (K.answer ∙ said U)

        go : (number_of (answered (task_of I) (searched (task_of I))) ≡ done_number) ⊎ (number_of (answered (task_of I) (searched (task_of I))) ≡ no_route_number) → (number_of r ≢ limit_passed_number) × (number_of r ≢ queue_full_number)
        go (inl e) = ((λ z. omega (arith, is, e, z)), (λ z. omega (arith, is, e, z)))
        go (inr e) = ((λ z. omega (arith, is, e, z)), (λ z. omega (arith, is, e, z)))

    few-so : Priced I.config → Unrefused I ⊎ Unsearched (answer_of I) → expanded_for r ≤ 12 * volume I.room
    few-so D (inr n) = rw (K.answer, n.none-expanded) zero-le
    few-so D (inl U) = rw (K.answer, said U, same-expanded (task_of I) (searched (task_of I))) (expanded-twelve (ready U) D)

    not_full_so : 11 * I.config.limit.0 < (task_of I).places → number_of r ≡ queue_full_number → Unrefused I ⊎ Unsearched (answer_of I) → ⊥
    not_full_so wide z (inr n) = omega (arith, n.small, ap number_of K.answer, z)
    not_full_so wide z (inl U) =
        let f = number-full (task_of I) (searched (task_of I)) (ap number_of (sym (said U) ∙ sym K.answer) ∙ z) in
        limit-never-full (task_of I) (ready U).start_in (ready U).goal_in wide f.0 f.1

    -- THE THIRD DEMAND of `astar_route`
    pub third_demand : Meaning I path r path'
    third_demand = record {
      route-held = λ w z. as_route w z searched_or_not;
      no_route_true = λ z. no_route_so z searched_or_not;
      no_route_exactly = λ U D E. ((λ z. no_route_so z (inl U)), (λ n. rw (K.answer, said U, ((no_route_exactly (ready U) D E).1 n).1) refl));
      settled = λ U D E. rw (K.answer, said U) (number-settled (task_of I) (settled (ready U) D E));
      no_limit = λ D E. no_limit_so D E searched_or_not;
      expands-few = λ D. few-so D searched_or_not;
      never-full = λ wide z. not_full_so wide z searched_or_not;
    }
