-- THE PLAIN ENGINE'S CLAIMS, said of rooms: their kinds, costs and ends. Statements says what is claimed.
use Rattle.std.specs.Prelude.{◌≡◌, ◌⊎◌, ◌≢◌, ◌↔◌, ℕ, ◌≤◌, get_or, Ok, Err}
use Rattle.std.proofs.Math.Path.{refl, sym}
use Rattle.std.proofs.Common.{ap, ◌∙◌, inl, inr, arith}
use Rattle.std.proofs.Math.Bool.{true}
use mathlib.Core.List.{List, [], ◌∷◌}
use Rattle.numbers.specs.Refusals.{done_number, no_route_number, limit_passed_number, queue_full_number}
use Rattle.basics.specs.Tests.{ask, never}
use Rattle.room.specs.declared.Nodes.{Nodes}
use Rattle.room.specs.Room.{Good}
use Rattle.room.specs.Units.{air}
use Rattle.best_first.specs.Search as search
use Rattle.sweeps.specs.Sweeps.{ReachedCount}
use Rattle.room_search.specs.Routing.{Task, routeable, routeable_kind, graph_of, graph, searched}
use Rattle.room_search.specs.SearchEndLaws.{start-is-end, goal-is-end}
use Rattle.routing.specs.declared.Lengths.{Lengths}
use Rattle.routing.specs.declared.Refusal.{Refusal}
use Rattle.routing.specs.declared.Refusal.TheVariants.{Sides, Config, Buffer, Code, Position}
use Rattle.routing.specs.Answers.{Answer}
use Rattle.routing.specs.declared.Unrouted.TheVariants as first_says
use Rattle.routing.specs.declared.Route.{Route}
use Rattle.routing.specs.Answers as first
use Rattle.routing.specs.Answers.{Input, task_of, judged, answered, fit_answer, answer_of, refusal_number, Judgement}
use Rattle.routing.specs.Entry.{ends_fit, EndsFit}
use Rattle.routing.specs.PromiseLaws.{admitted}
use Rattle.demands.specs.Lawful.{LawfulStep, step_cost, LawfulSteps, cost_from, LawfulWay, way_cost}
use Rattle.demands.specs.Statements.{Posed, Priced, NoLawfulWay, Unrefused, Meaning, RouteHeld}
use Rattle.demands.specs.Bridge.{way-lawful, lawful-way}
use Rattle.demands.specs.Theorems.{ways_exactly, third_demand}
use Rattle.plain.specs.declared.Errand.{Errand}
use Rattle.plain.specs.Answers.{PlainAnswer}
use Rattle.plain.specs.declared.PlainUnrouted.TheVariants.{Refused, NotRouteable, NoRoute}
use Rattle.plain.specs.declared.PlainRoute.{PlainRoute}
use Rattle.plain.specs.Answers.{Found, Answered, number_of, detail_of, route_cost, Promise}
use Rattle.plain.specs.Entry.{task_on, RoomSettled}
use Rattle.plain_claims.specs.Statements.{LedCount, PlainRouteHeld, PlainMeaning, search_input, Compares}

-- ---- the cells that ways of the room's graph lead to are those that lawful steps lead to

module _ (T : Task) (good : Good T.room) where
  pub counts-exactly : (k : ℕ) → ReachedCount (graph T) k ↔ LedCount T k
  unfolding graph_of
  counts-exactly k = (there, back)
    where
      there : ReachedCount (graph T) k → LedCount T k
      there C = record {
        marks = C.marks;
        long = C.long;
        marked = λ v p. let r = C.marked v p in (r.0, (way-lawful T r.0 T.start v r.1 r.2).0);
        all = λ v s. C.all v (s.0, cost_from T T.start s.0, lawful-way T good s.0 T.start v s.1);
        counted = C.counted;
      }

      back : LedCount T k → ReachedCount (graph T) k
      back C = record {
        marks = C.marks;
        long = C.long;
        marked = λ v p. let s = C.marked v p in (s.0, cost_from T T.start s.0, lawful-way T good s.0 T.start v s.1);
        all = λ v r. C.all v (r.0, (way-lawful T r.0 T.start v r.1 r.2).0);
        counted = C.counted;
      }

-- at most as many sweeps are made as cells are reached
pub few_sweeps : {E : Errand} {kinds known previous : List ℕ} {sweeps : ℕ} → Good E.room → RoomSettled E kinds known previous sweeps
    → (k : ℕ) → LedCount (task_on E kinds) k → sweeps ≤ k
few_sweeps {E} {kinds} good S k C = S.few k ((counts-exactly (task_on E kinds) good k).1 C)

-- ---- which inputs are answered by 0 or 11

refusal-small : (why : Refusal) → (2 ≤ refusal_number why) × (refusal_number why ≤ 6)
refusal-small Sides = (omega arith, omega arith)
refusal-small Config = (omega arith, omega arith)
refusal-small Buffer = (omega arith, omega arith)
refusal-small Code = (omega arith, omega arith)
refusal-small Position = (omega arith, omega arith)

-- an answer by 0 is a route
pub plain-route : (r : PlainAnswer) → number_of r ≡ done_number → (w : PlainRoute) × (r ≡ Ok w)
plain-route (Ok w) z = (w, refl)
plain-route (Err (Refused why)) z = absurd (omega (arith, refusal-small why, z))
plain-route (Err (NotRouteable cell)) z = absurd (omega arith)
plain-route (Err (NoRoute n)) z = absurd (omega arith)

first-route : (a : Answer) → first.number_of a ≡ done_number → (w : Route) × (a ≡ Ok w)
first-route (Ok w) z = (w, refl)
first-route (Err (first_says.Refused why)) z = absurd (omega (arith, refusal-small why, z))
first-route (Err (first_says.NotRouteable cell)) z = absurd (omega arith)
first-route (Err (first_says.NoRoute x)) z = absurd (omega arith)
first-route (Err (first_says.LimitPassed x)) z = absurd (omega arith)
first-route (Err (first_says.QueueFull x)) z = absurd (omega arith)

module _ (I : Input) where
  abbrev ends : EndsFit
  ends = ends_fit I.kinds I.start I.goal

  -- no number from 2 to 10 is due: both ends are fit for wire
  module _ (U : Unrefused I) where
    ends-good : ends ≡ Ok tt
    unfolding routeable
    ends-good =
        let s : routeable_kind true (get_or I.kinds I.start air) ≡ true = rw (start-is-end I.start I.goal) at U.start-free in
        let g : routeable_kind true (get_or I.kinds I.goal air) ≡ true = rw (goal-is-end I.start I.goal) at U.goal-free in
        rw (s, g)

    posed : Posed (task_of I)
    posed =
        let p = admitted {R = I.room} {C = I.config} {kinds = I.kinds} {start = I.start} {goal = I.goal} {L = I.lengths} U.fit in
        record { good = p.good; start_in = p.start_in; goal_in = p.goal_in; start-free = U.start-free; goal-free = U.goal-free }

  start-free : ends ≡ Ok tt → routeable (task_of I) I.start ≡ true
  unfolding routeable
  start-free e =
      rw (start-is-end I.start I.goal)
      (ask (routeable_kind true (get_or I.kinds I.start air)) (λ t. t) (λ f. never (let q : Err I.start ≡ Ok (tt {0}) = rw f at e in cc)))

  goal-free : ends ≡ Ok tt → routeable (task_of I) I.goal ≡ true
  unfolding routeable
  goal-free e =
      let s : routeable_kind true (get_or I.kinds I.start air) ≡ true = rw (start-is-end I.start I.goal) at (start-free e) in
      rw (goal-is-end I.start I.goal)
      (ask (routeable_kind true (get_or I.kinds I.goal air)) (λ t. t) (λ f. never (let q : Err I.goal ≡ Ok (tt {0}) = rw (s, f) at e in cc)))

  unrefused : (r : PlainAnswer) (cells : List ℕ) → Answered (judged I) ends (graph (task_of I)) r cells → (number_of r ≡ done_number) ⊎ (number_of r ≡ no_route_number) → Unrefused I
  unrefused r cells A z = go (judged I) ends refl refl A
    where
      not_small : (n : ℕ) → 2 ≤ n → n ≤ 10 → number_of r ≡ n → ⊥
      not_small n a b e = elim z [ inl q ↦ omega (arith, q, e) | inr q ↦ omega (arith, q, e) ]

      go : (j : Judgement) (e : EndsFit) → judged I ≡ j → ends ≡ e → Answered j e (graph (task_of I)) r cells → Unrefused I
      go (Err why) e p q B = absurd (not_small (refusal_number why) (refusal-small why).0 (omega (arith, refusal-small why)) (ap number_of B.0))
      go (Ok _) (Err cell) p q B = absurd (not_small 10 (omega arith) (omega arith) (ap number_of B.0))
      go (Ok _) (Ok _) p q B = record { fit = p; start-free = start-free q; goal-free = goal-free q }

  -- ---- the answer's meaning

  module _ {path known previous classes : List ℕ} {r : PlainAnswer} {path' known' previous' classes' : List ℕ}
      (P : Promise I path known previous classes r path' known' previous' classes') where
    found : Unrefused I → Found (graph (task_of I)) r P.cells
    found U = rw (U.fit, ends-good U) at P.answer

    as_route : (w : PlainRoute) → r ≡ Ok w → PlainRouteHeld I path w path'
    unfolding graph_of
    as_route w z =
        let U = unrefused r P.cells P.answer (inl (ap number_of z)) in
        let f : Found (graph (task_of I)) (Ok w) P.cells = rw z at (found U) in
        let h = f.1 in
        let l = (ways_exactly (posed U) h.rest w.cost.0).0 h.way in
        record {
          cells = P.cells;
          path-is = rw z at P.path-is;
          length_is = sym f.0;
          lawful = record { after = h.rest; begins = h.begins; lawful = l.0; adds-up = sym l.1 };
          cheapest = λ after v. f.2 after (way_cost (task_of I) after) ((ways_exactly (posed U) after (way_cost (task_of I) after)).1 (v, refl));
        }

    as_none : Unrefused I → (a : PlainAnswer) → Found (graph (task_of I)) a P.cells → number_of a ≡ no_route_number → NoLawfulWay (task_of I) × LedCount (task_of I) (detail_of a)
    unfolding graph_of
    as_none U (Err (Refused why)) f z = absurd f
    as_none U (Err (NotRouteable cell)) f z = absurd f
    as_none U (Ok w) f z = absurd (omega arith)
    as_none U (Err (NoRoute n)) f z =
        (λ after l. f.1 after (way_cost (task_of I) after) ((ways_exactly (posed U) after (way_cost (task_of I) after)).1 (l, refl)), (counts-exactly (task_of I) (posed U).good n.0).0 f.2)

    none_so : number_of r ≡ no_route_number → NoLawfulWay (task_of I) × LedCount (task_of I) (detail_of r)
    none_so z = let U = unrefused r P.cells P.answer (inr z) in as_none U r (found U) z

    as_settled : (a : PlainAnswer) → Found (graph (task_of I)) a P.cells → (number_of a ≡ done_number) ⊎ (number_of a ≡ no_route_number)
    as_settled (Err (Refused why)) f = absurd f
    as_settled (Err (NotRouteable cell)) f = absurd f
    as_settled (Ok w) f = inl refl
    as_settled (Err (NoRoute n)) f = inr refl

    due-so : Unrefused I → NoLawfulWay (task_of I) → number_of r ≡ no_route_number
    due-so U n = go (as_settled r (found U))
      where
        go : (number_of r ≡ done_number) ⊎ (number_of r ≡ no_route_number) → number_of r ≡ no_route_number
        go (inr z) = z
        go (inl z) = let w = plain-route r z in let h = (as_route w.0 w.1).lawful in absurd (n h.after h.lawful)

    -- what `plain_route` answers means this, at any costs
    pub plain-means : PlainMeaning I path r path'
    plain-means = record {
      route-held = as_route;
      no_route_true = λ z. (none_so z).0;
      no_route_counts = λ z. (none_so z).1;
      no_route_exactly = λ U. ((λ z. (none_so z).0), due-so U);
      settled = λ U. as_settled r (found U);
    }

    -- ---- the two engines compared

    module _ (U : Unrefused I) (limit : Nodes) (lengths : Lengths) where
      abbrev J : Input
      J = search_input I limit lengths

      -- neither the node limit nor the queue is asked what is lawful, or what it costs
      step-there : (u v : ℕ) → LawfulStep (task_of I) u v → LawfulStep (task_of J) u v
      unfolding routeable
      step-there u v s = record { to_in = s.to_in; aside = s.aside; rise = s.rise; enters = s.enters; stands = s.stands }

      step_back : (u v : ℕ) → LawfulStep (task_of J) u v → LawfulStep (task_of I) u v
      unfolding routeable
      step_back u v s = record { to_in = s.to_in; aside = s.aside; rise = s.rise; enters = s.enters; stands = s.stands }

      steps-there : (l : List ℕ) (u t : ℕ) → LawfulSteps (task_of I) u l t → LawfulSteps (task_of J) u l t
      steps-there [] u t s = s
      steps-there (v ∷ l) u t s = (step-there u v s.0, steps-there l v t s.1)

      steps_back : (l : List ℕ) (u t : ℕ) → LawfulSteps (task_of J) u l t → LawfulSteps (task_of I) u l t
      steps_back [] u t s = s
      steps_back (v ∷ l) u t s = (step_back u v s.0, steps_back l v t s.1)

      way-there : (l : List ℕ) → LawfulWay (task_of I) l → LawfulWay (task_of J) l
      unfolding routeable
      way-there l w = record { start_in = w.start_in; start-free = w.start-free; goal-free = w.goal-free; leads = steps-there l I.start I.goal w.leads }

      way_back : (l : List ℕ) → LawfulWay (task_of J) l → LawfulWay (task_of I) l
      unfolding routeable
      way_back l w = record { start_in = w.start_in; start-free = w.start-free; goal-free = w.goal-free; leads = steps_back l I.start I.goal w.leads }

      same-price : (l : List ℕ) (u : ℕ) → cost_from (task_of J) u l ≡ cost_from (task_of I) u l
      unfolding step_cost
      same-price [] u = refl
      same-price (v ∷ l) u = rw (same-price l v)

      -- the search's answer, with its meaning
      module _ {path₁ : List ℕ} {a : Answer} {path₂ : List ℕ} (first-means : Meaning J path₁ a path₂) (is : a ≡ answer_of J) where
        both_no_route : first.number_of a ≡ no_route_number → number_of r ≡ no_route_number
        both_no_route z = due-so U (λ l w. first-means.no_route_true z l (way-there l w))

        both-route : first.number_of a ≡ done_number → number_of r ≡ done_number
        both-route z = go (as_settled r (found U))
          where
            go : (number_of r ≡ done_number) ⊎ (number_of r ≡ no_route_number) → number_of r ≡ done_number
            go (inl e) = e
            go (inr e) =
                let w = first-route a z in
                let h = (first-means.route-held w.0 w.1).lawful in
                absurd ((none_so e).0 h.after (way_back h.after h.lawful))

        no_dearer : first.number_of a ≡ done_number → route_cost r ≤ first.route_cost a
        no_dearer z =
            let w = first-route a z in
            let h = (first-means.route-held w.0 w.1).lawful in
            let p = plain-route r (both-route z) in
            let c = (as_route p.0 p.1).cheapest h.after (way_back h.after h.lawful) in
            omega (arith, c, same-price h.after I.start, h.adds-up, ap route_cost p.1, ap first.route_cost w.1)

        same-cost : Priced J.config → first.number_of a ≡ done_number → route_cost r ≡ first.route_cost a
        same-cost D z =
            let w = first-route a z in
            let p = plain-route r (both-route z) in
            let h = (as_route p.0 p.1).lawful in
            let c = (first-means.route-held w.0 w.1).cheapest D h.after (way-there h.after h.lawful) in
            omega (arith, no_dearer z, c, same-price h.after I.start, h.adds-up, ap route_cost p.1, ap first.route_cost w.1)

        said : Unrefused J → a ≡ answered (task_of J) (searched (task_of J))
        unfolding answer_of fit_answer
        said W = is ∙ rw (W.fit, W.start-free, W.goal-free)

        no_route_or_limit : Unrefused J → number_of r ≡ no_route_number → (first.number_of a ≡ no_route_number) ⊎ ((first.number_of a ≡ limit_passed_number) ⊎ (first.number_of a ≡ queue_full_number))
        no_route_or_limit W z = go (searched (task_of J)) (said W)
          where
            go : (s : search.Answer) → a ≡ answered (task_of J) s → (first.number_of a ≡ no_route_number) ⊎ ((first.number_of a ≡ limit_passed_number) ⊎ (first.number_of a ≡ queue_full_number))
            go (search.route p c x) e = absurd (omega (arith, both-route (ap first.number_of e), z))
            go (search.no_route x) e = inl (ap first.number_of e)
            go (search.limit-passed x) e = inr (inl (ap first.number_of e))
            go (search.queue-full x) e = inr (inr (ap first.number_of e))

        pub compares : Compares J r a
        compares = record {
          both-route = both-route;
          no_dearer = no_dearer;
          same-cost = same-cost;
          both_no_route = both_no_route;
          no_route_there = λ z e. omega (arith, both-route e, z);
          no_route_or_limit = no_route_or_limit;
        }

      -- so do the answers of `plain_route` and `astar_route` compare, where no number from 2 to 10 is due of the first
      pub plain-compares : {path₁ known₁ previous₁ classes₁ queue₁ : List ℕ} {a : Answer} {path₂ known₂ previous₂ classes₂ queue₂ : List ℕ}
          → first.Promise J path₁ known₁ previous₁ classes₁ queue₁ a path₂ known₂ previous₂ classes₂ queue₂ → Compares J r a
      plain-compares K = compares (third_demand J K) K.answer
