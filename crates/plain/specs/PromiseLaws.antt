-- The promise of the plain engine, by its cases; and what it determines: everything but which of the cheapest paths is answered.
use Rattle.std.specs.Prelude.{◌≡◌, refl, ◌≢◌, List, [], ◌++◌, ℕ, ◌-◌, pred, ltb, length, get_or, drop, take, replicate, Ok, Err}
use Rattle.std.proofs.Common.{sym, ap, ◌∙◌, arith, length-take-le}
use Rattle.std.proofs.Math.Nat.{sub-zero}
use Rattle.basics.specs.Counts.{times}
use Rattle.basics.specs.Zeros.{drop_zeros}
use Rattle.lent.specs.Lent.{Cleared, output_after, work_after}
use Rattle.room.specs.declared.Room.{Room}
use Rattle.room.specs.declared.Cost.{Cost}
use Rattle.room.specs.Room.{volume}
use Rattle.trace.specs.Traces.{PreviousInside}
use Rattle.best_first.specs.Search.{Graph, trace}
use Rattle.sweeps.specs.RestLaws.{rest-cheapest, rest_no_way, rest-lawful, rest-counted, count-one}
use Rattle.room_search.specs.Routing.{graph_of, graph}
use Rattle.room.specs.Units.{dearest}
use Rattle.room_search.specs.Classes.{Plain, with_end}
use Rattle.room_search.specs.SameGraphLaws.{ends-graph}
use Rattle.routing.specs.declared.Refusal.{Refusal}
use Rattle.routing.specs.Answers.{Input, task_of, judged, Judgement}
use Rattle.routing.specs.Entry.{ends_fit, EndsFit}
use Rattle.routing.specs.PromiseLaws.{admitted, untouched}
use Rattle.plain.specs.declared.Errand.{Errand}
use Rattle.plain.specs.Answers.{PlainAnswer}
use Rattle.plain.specs.declared.PlainUnrouted.TheVariants.{Refused, NotRouteable, NoRoute}
use Rattle.plain.specs.Sweeping.{Settled}
use Rattle.plain.specs.Answers.{costs_alone, input_of, Found, Answered, number_of, detail_of, route_cost, Promise}
use Rattle.plain.specs.Entry.{task_on, RoomReady, RoomSettled, RestShown, Admits, Fitted}

-- ---- the classes with both ends made are those of the room's own graph

pub room_settled : {E : Errand} {kinds known₀ previous₀ classes₀ : List ℕ} → RoomReady E kinds known₀ previous₀ classes₀ → {classes : List ℕ} → Plain E.room kinds classes
    → {known previous : List ℕ} {sweeps : ℕ} → Settled E (with_end E.room kinds E.goal (with_end E.room kinds E.start classes)) known previous sweeps
    → RoomSettled E kinds known previous sweeps
room_settled {E} {kinds} S {classes} P Q =
    let e = ends-graph (task_on E kinds) classes P S.posed.start_in S.posed.goal_in in
    record { kept = rw e at Q.kept; rest = rw e at Q.rest; few = λ k C. Q.few k (rw e C) }

pub settled-inside : {E : Errand} {kinds known previous : List ℕ} {sweeps : ℕ} → RoomSettled E kinds known previous sweeps → (length previous ≡ volume E.room) × PreviousInside previous
unfolding graph_of
settled-inside S = let e = S.kept.linked.previous-long in (e, rw e S.kept.previous_in)

pub settled-known : {E : Errand} {kinds known previous : List ℕ} {sweeps : ℕ} → RoomSettled E kinds known previous sweeps → length known ≡ volume E.room
unfolding graph_of
settled-known S = S.kept.linked.known-long

-- ---- the first V numbers of the lent memory

pub room-ready : {E : Errand} {kinds path known previous classes : List ℕ} → Admits E kinds path known previous classes → {v : ℕ} → v ≡ volume E.room
    → RoomReady E kinds (take v known) (take v previous) (take v classes)
room-ready {E} {kinds} {path} {known} {previous} {classes} A {v} e = record {
  posed = A.posed;
  known-long = rw e (length-take-le (volume E.room) known A.known-enough);
  previous-long = rw e (length-take-le (volume E.room) previous A.previous-enough);
  classes-long = rw e (length-take-le (volume E.room) classes A.classes-enough);
}

-- the answer of costs at rest, told
pub fitted : {E : Errand} {kinds known₀ previous₀ : List ℕ} {sweeps : ℕ} → RoomSettled E kinds known₀ previous₀ sweeps → {path path₀ path' known known' previous previous' classes classes' : List ℕ} {r : PlainAnswer}
    → RestShown E.goal known₀ previous₀ path₀ r path' → length path₀ ≡ length path → Cleared known known' → Cleared previous previous' → Cleared classes classes'
    → Fitted E kinds path known previous classes r path' known' previous' classes'
unfolding graph_of
fitted {E} {kinds} S T e a b c = record {
  cells = T.cells;
  found = T.found (graph (task_on E kinds)) (dearest E.config) (sym S.kept.linked.previous-long) refl S.kept S.rest;
  path-is = rw e at T.path-is;
  known_is = a;
  previous-is = b;
  classes-is = c;
}

-- ---- what costs at rest answer

module _ {goal : ℕ} {known previous path : List ℕ} (z : path ≡ replicate (length path) 0) where
  pub told_none : get_or known goal 0 ≡ 0 → (n : ℕ) → n ≡ times (ltb 0) known → RestShown goal known previous path (Err (NoRoute (record { 0 = n }))) path
  told_none e n q = record {
    cells = [];
    path-is = rw sub-zero z;
    found = λ G D s g K R. (refl, rest_no_way K R (rw g e), rw q (rest-counted K R));
  }

  pub told-route : get_or known goal 0 ≢ 0 → (n c : ℕ) {path' : List ℕ} → n ≡ length (trace (length previous) previous goal []) → c ≡ get_or known goal 0 - 1
      → path' ≡ trace (length previous) previous goal [] ++ drop n path
      → RestShown goal known previous path (Ok (record { length = n; cost = record { 0 = c } })) path'
  told-route p n c q w e = record {
    cells = trace (length previous) previous goal [];
    path-is = e ∙ ap (λ l. trace (length previous) previous goal [] ++ l) (ap (drop n) z ∙ drop_zeros n (length path) ∙ ap (λ k. replicate (length path - k) 0) q);
    found = λ G D s g K R.
        let h : c ≡ pred (get_or known G.goal 0) = rw g (omega (arith, w)) in
        (sym q, rw h (rw (← s, ← g) (rest-lawful K R (rw g (omega (arith, p))))), rw h (rest-cheapest K R));
  }

-- ---- the cases

module _ (R : Room) (horizontal stair support : Cost) (kinds : List ℕ) (start goal : ℕ) (path known previous classes : List ℕ) where
  abbrev I : Input
  I = input_of R horizontal stair support kinds start goal path known previous classes

  abbrev E : Errand
  E = record { room = R; config = costs_alone horizontal stair support; start = start; goal = goal }

  -- refused before anything is touched
  pub promise_unfit : (why : Refusal) → judged I ≡ Err why → Promise I path known previous classes (Err (Refused why)) path known previous classes
  promise_unfit why e = record {
    cells = [];
    answer = rw e (refl, refl);
    path-is = rw (untouched why);
    known_is = rw (untouched why);
    previous-is = rw (untouched why);
    classes-is = rw (untouched why);
  }

  module _ (fit : judged I ≡ Ok tt) where
    pub admits : Admits E kinds path known previous classes
    admits =
        let p = admitted {R = R} {C = costs_alone horizontal stair support} {kinds = kinds} {start = start} {goal = goal} {L = I.lengths} fit in
        record {
          posed = record { good = p.good; config-good = p.config-good; kinds-long = p.kinds-long; start_in = p.start_in; goal_in = p.goal_in };
          path-enough = p.path-enough;
          known-enough = p.known-enough;
          previous-enough = p.previous-enough;
          classes-enough = p.classes-enough;
        }

    -- number 10
    pub promise_end : (cell : ℕ) {path' known' previous' classes' : List ℕ} → Err cell ≡ ends_fit kinds start goal → Cleared path path' → Cleared known known'
        → Cleared previous previous' → Cleared classes classes' → Promise I path known previous classes (Err (NotRouteable cell)) path' known' previous' classes'
    promise_end cell e a b c d = record {
      cells = [];
      answer = rw (fit, ← e) (refl, refl);
      path-is = rw sub-zero a;
      known_is = b;
      previous-is = c;
      classes-is = d;
    }

    -- the sweeps
    pub promise_found : (r : PlainAnswer) {path' known' previous' classes' : List ℕ} → Ok tt ≡ ends_fit kinds start goal
        → Fitted E kinds path known previous classes r path' known' previous' classes' → Promise I path known previous classes r path' known' previous' classes'
    promise_found r {path'} {known'} {previous'} {classes'} e F = go r F.found
      where
        go : (r : PlainAnswer) → Found (graph (task_on E kinds)) r F.cells → Promise I path known previous classes r path' known' previous' classes'
        go (Err (Refused why)) f = absurd f
        go (Err (NotRouteable cell)) f = absurd f
        go (Ok q) f = record { cells = F.cells; answer = rw (fit, ← e) f; path-is = F.path-is; known_is = F.known_is; previous-is = F.previous-is; classes-is = F.classes-is }
        go (Err (NoRoute n)) f = record { cells = F.cells; answer = rw (fit, ← e) f; path-is = F.path-is; known_is = F.known_is; previous-is = F.previous-is; classes-is = F.classes-is }

-- ---- what the promise determines

-- two routes that are both cheapest cost the same, and a route and "no route" exclude each other
module _ (G : Graph) where
  found-same : (r s : PlainAnswer) (k l : List ℕ) → Found G r k → Found G s l → (number_of r ≡ number_of s) × (detail_of r ≡ detail_of s) × (route_cost r ≡ route_cost s)
  found-same (Err (Refused why)) s k l f g = absurd f
  found-same (Err (NotRouteable cell)) s k l f g = absurd f
  found-same (Ok q) (Err (Refused why)) k l f g = absurd g
  found-same (Ok q) (Err (NotRouteable cell)) k l f g = absurd g
  found-same (Err (NoRoute n)) (Err (Refused why)) k l f g = absurd g
  found-same (Err (NoRoute n)) (Err (NotRouteable cell)) k l f g = absurd g
  found-same (Ok q) (Err (NoRoute n)) k l f g = absurd (g.1 f.1.rest q.cost.0 f.1.way)
  found-same (Err (NoRoute n)) (Ok q) k l f g = absurd (f.1 g.1.rest q.cost.0 g.1.way)
  found-same (Ok q) (Ok p) k l f g =
      (refl, refl, omega (arith, f.2 g.1.rest p.cost.0 g.1.way, g.2 f.1.rest q.cost.0 f.1.way))
  found-same (Err (NoRoute n)) (Err (NoRoute m)) k l f g = (refl, count-one f.2 g.2, refl)

  -- without a route the answer is the same
  found_none : (r s : PlainAnswer) (k l : List ℕ) → number_of r ≢ 0 → Found G r k → Found G s l → (r ≡ s) × (k ≡ l)
  found_none (Err (Refused why)) s k l d f g = absurd f
  found_none (Err (NotRouteable cell)) s k l d f g = absurd f
  found_none (Ok q) s k l d f g = absurd (d refl)
  found_none (Err (NoRoute n)) (Err (Refused why)) k l d f g = absurd g
  found_none (Err (NoRoute n)) (Err (NotRouteable cell)) k l d f g = absurd g
  found_none (Err (NoRoute n)) (Ok q) k l d f g = absurd (f.1 g.1.rest q.cost.0 g.1.way)
  found_none (Err (NoRoute n)) (Err (NoRoute m)) k l d f g =
      let e : n.0 ≡ m.0 = count-one f.2 g.2 in
      (λ i. Err (NoRoute (record { 0 = e i })), f.0 ∙ sym g.0)

  answered-same : (j : Judgement) (e : EndsFit) (r s : PlainAnswer) (k l : List ℕ) → Answered j e G r k → Answered j e G s l
      → (number_of r ≡ number_of s) × (detail_of r ≡ detail_of s) × (route_cost r ≡ route_cost s)
  answered-same (Err why) e r s k l f g = let q : r ≡ s = f.0 ∙ sym g.0 in (ap number_of q, ap detail_of q, ap route_cost q)
  answered-same (Ok _) (Err cell) r s k l f g = let q : r ≡ s = f.0 ∙ sym g.0 in (ap number_of q, ap detail_of q, ap route_cost q)
  answered-same (Ok _) (Ok _) r s k l f g = found-same r s k l f g

  answered-none : (j : Judgement) (e : EndsFit) (r s : PlainAnswer) (k l : List ℕ) → number_of r ≢ 0 → Answered j e G r k → Answered j e G s l → (r ≡ s) × (k ≡ l)
  answered-none (Err why) e r s k l d f g = (f.0 ∙ sym g.0, f.1 ∙ sym g.1)
  answered-none (Ok _) (Err cell) r s k l d f g = (f.0 ∙ sym g.0, f.1 ∙ sym g.1)
  answered-none (Ok _) (Ok _) r s k l d f g = found_none r s k l d f g

pub record Result : Type 0 where
  pub answer : PlainAnswer
  pub path : List ℕ
  pub known : List ℕ
  pub previous : List ℕ
  pub classes : List ℕ

-- two results agree in all but a route's path and its length
pub record Agree (x y : Result) : Type 0 where
  pub number : number_of x.answer ≡ number_of y.answer
  pub detail : detail_of x.answer ≡ detail_of y.answer
  pub cost : route_cost x.answer ≡ route_cost y.answer
  pub known : x.known ≡ y.known
  pub previous : x.previous ≡ y.previous
  pub classes : x.classes ≡ y.classes
  pub no_route : number_of x.answer ≢ 0 → (x.answer ≡ y.answer) × (x.path ≡ y.path)

module _ (I : Input) (path known previous classes : List ℕ) where
  abbrev pub Keeps : Result → Type 0
  Keeps x = Promise I path known previous classes x.answer x.path x.known x.previous x.classes

  -- two results that keep the promise agree
  pub agree : (x y : Result) → Keeps x → Keeps y → Agree x y
  agree x y P Q = record {
    number = same.0;
    detail = same.1;
    cost = same.2;
    known = P.known_is ∙ ap (λ n. work_after n known) same.0 ∙ sym Q.known_is;
    previous = P.previous-is ∙ ap (λ n. work_after n previous) same.0 ∙ sym Q.previous-is;
    classes = P.classes-is ∙ ap (λ n. work_after n classes) same.0 ∙ sym Q.classes-is;
    no_route = λ d.
        let e = answered-none (graph (task_of I)) (judged I) (ends_fit I.kinds I.start I.goal) x.answer y.answer P.cells Q.cells d P.answer Q.answer in
        (e.0, P.path-is ∙ ap (λ n. output_after n P.cells path) same.0 ∙ ap (λ l. output_after (number_of y.answer) l path) e.1 ∙ sym Q.path-is);
  }
    where
      same : (number_of x.answer ≡ number_of y.answer) × (detail_of x.answer ≡ detail_of y.answer) × (route_cost x.answer ≡ route_cost y.answer)
      same = answered-same (graph (task_of I)) (judged I) (ends_fit I.kinds I.start I.goal) x.answer y.answer P.cells Q.cells P.answer Q.answer
