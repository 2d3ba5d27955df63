-- "Why wasn't it reached?" What `why_no_route` tells on number 11 is so; on other numbers its outputs are zero or untouched; and it stands in for the search.
-- All of it from its promise alone.
use Rattle.std.specs.Prelude.{◌≡◌, refl, ◌↔◌, Bool, true, false, List, [], ◌++◌, ℕ, ◌+◌, ◌*◌, ◌<◌, length, get_or, replicate, Ok, Err}
use Rattle.std.proofs.Common.{sym, ap, ◌∙◌, arith}
use Rattle.std.proofs.Math.Nat.{sub-zero}
use Rattle.std.proofs.Math.ListN.{get_or-append}
use Rattle.numbers.specs.Refusals.{no_route_number}
use Rattle.basics.specs.Tests.{either, ask, never}
use Rattle.basics.specs.Counts.{bit, bit-small}
use Rattle.lent.specs.Lent.{touches, filled}
use Rattle.room.specs.declared.Nodes.{Nodes}
use Rattle.room.specs.Room.{volume}
use Rattle.room_search.specs.Routing.{Task, routeable}
use Rattle.routing.specs.Answers.{Answer}
use Rattle.routing.specs.declared.Unrouted.TheVariants.{Refused, NotRouteable, NoRoute, LimitPassed, QueueFull}
use Rattle.routing.specs.declared.Refusal.TheVariants.{Sides, Config, Buffer, Code, Position}
use Rattle.routing.specs.Answers as search
use Rattle.routing.specs.Answers.{Input, task_of, judged, fit_answer, answer_of, number_of}
use Rattle.routing.specs.PromiseLaws.{admitted}
use Rattle.walk.specs.ChainLaws.{chained-on, chained-step}
use Rattle.flood.specs.Walls.{free_by, wall_at}
use Rattle.flood.specs.TableLaws.{tabled-long, tabled-at}
use Rattle.flood.specs.FloodLaws.{reached-free}
use Rattle.flood.specs.WallLaws.{walls-at}
use Rattle.why.specs.Why.{obstacle_of, reason_of, is_reached_of, reached_of, walls_of, outputs_refused, Memory, MemoryAfter, answer_in, Promise}
use Rattle.why.specs.WhyLaws.{why-same, why-short, no_route_fit}
use Rattle.demands.specs.Lawful.{LawfulStep}
use Rattle.demands.specs.Statements.{NoLawfulWay, Posed}
use Rattle.demands.specs.Theorems.{third_demand}
use Rattle.why_demands.specs.Statements.{LawfullyReached, WalledIn, SameAsked}
use Rattle.why_demands.specs.StepLaws.{reason-says, lawful-free, reached-chained, chained-reached, steps-same}

-- ---- of a task that is posed and has no lawful way, and the defined outputs, whatever stands behind them

bit_true : (b : Bool) → bit b ≡ 1 → b ≡ true
bit_true true e = refl
bit_true false e = absurd (omega arith)

bit_false : (b : Bool) → bit b ≡ 0 → b ≡ false
bit_false true e = absurd (omega arith)
bit_false false e = refl

module _ (T : Task) (P : Posed T) (none : NoLawfulWay T) (after-reached after-walls : List ℕ) where
  abbrev reached : List ℕ
  reached = reached_of T ++ after-reached

  abbrev walls : List ℕ
  walls = walls_of T ++ after-walls

  abbrev cells : ℕ
  cells = volume T.room

  mark-at : (v : ℕ) → v < cells → get_or reached v 0 ≡ bit (is_reached_of T v)
  mark-at v h =
      get_or-append (reached_of T) after-reached 0 v (rw (tabled-long cells (λ x. bit (is_reached_of T x))) h)
      ∙ tabled-at cells (λ x. bit (is_reached_of T x)) v h

  byte_at : (u i : ℕ) → u < cells → i < 12 → get_or walls (12 * u + i) 0 ≡ either (is_reached_of T u) (reason_of T u i) 0
  byte_at u i h l =
      get_or-append (walls_of T) after-walls 0 (12 * u + i) (rw (tabled-long (12 * cells) (wall_at T.room (obstacle_of T) (is_reached_of T))) (omega arith))
      ∙ walls-at T.room (obstacle_of T) (is_reached_of T) u i h l

  is-marked : (v : ℕ) → v < cells → get_or reached v 0 ≡ 1 → is_reached_of T v ≡ true
  is-marked v h e = bit_true (is_reached_of T v) (sym (mark-at v h) ∙ e)

  marked-is : (v : ℕ) → v < cells → is_reached_of T v ≡ true → get_or reached v 0 ≡ 1
  marked-is v h t = mark-at v h ∙ ap bit t

  lawfully : (v : ℕ) → (is_reached_of T v ≡ true) ↔ LawfullyReached T v
  lawfully v =
      let R = reached-free T.room (obstacle_of T) T.start P.start_in v in
      ((λ t. chained-reached T v (R.0 t)), (λ L. R.1 (reached-chained T P.good v L)))

  unreached-goal : LawfullyReached T T.goal → ⊥
  unreached-goal L = none L.cells (record { start_in = P.start_in; start-free = P.start-free; goal-free = P.goal-free; leads = L.steps })

  step-on : (u v : ℕ) → LawfulStep T u v → is_reached_of T u ≡ true → is_reached_of T v ≡ true
  step-on u v L t =
      let F = free_by T.room (obstacle_of T) in
      (reached-free T.room (obstacle_of T) T.start P.start_in v).1
      (chained-on F T.start u v ((reached-free T.room (obstacle_of T) T.start P.start_in u).0 t) (chained-step F u v (lawful-free T P.good u v L)))

  pub outputs_say : WalledIn T reached walls
  outputs_say = record {
    marked = λ v h. ((λ e. (lawfully v).0 (is-marked v h e)), (λ L. marked-is v h ((lawfully v).1 L)));
    marks-small = λ v h. rw (mark-at v h) (bit-small (is_reached_of T v));
    says-why = λ u i h l e. rw (byte_at u i h l, is-marked u h e) (reason-says T u i l);
    unreached = λ u i h l e. byte_at u i h l ∙ rw (bit_false (is_reached_of T u) (sym (mark-at u h) ∙ e));
    start_in = marked-is T.start P.start_in ((lawfully T.start).1 (record { cells = []; steps = refl }));
    none-leaves = λ u v h e L. marked-is v L.to_in (step-on u v L (is-marked u h e));
    goal-out = mark-at T.goal P.goal_in
        ∙ ask (is_reached_of T T.goal) (λ t. absurd (unreached-goal ((lawfully T.goal).0 t))) (λ f. ap bit f);
    no_way = λ C places l W. unreached-goal (record { cells = l; steps = steps-same T C places l T.start T.goal W.leads });
  }

-- ---- of the promise

number_no_route : (a : Answer) → number_of a ≡ no_route_number → (x : Nodes) × (a ≡ Err (NoRoute x))
number_no_route (Ok r) e = absurd (omega arith)
number_no_route (Err (Refused Sides)) e = absurd (omega arith)
number_no_route (Err (Refused Config)) e = absurd (omega arith)
number_no_route (Err (Refused Buffer)) e = absurd (omega arith)
number_no_route (Err (Refused Code)) e = absurd (omega arith)
number_no_route (Err (Refused Position)) e = absurd (omega arith)
number_no_route (Err (NotRouteable cell)) e = absurd (omega arith)
number_no_route (Err (NoRoute x)) e = (x, refl)
number_no_route (Err (LimitPassed x)) e = absurd (omega arith)
number_no_route (Err (QueueFull x)) e = absurd (omega arith)

module _ (I : Input) (x : Nodes) (e : answer_of I ≡ Err (NoRoute x)) where
  fit : judged I ≡ Ok tt
  fit = no_route_fit I x e

  said-fit : fit_answer I ≡ Err (NoRoute x)
  unfolding answer_of
  said-fit = rw fit at e

  both-free : (routeable (task_of I) I.start ≡ true) × (routeable (task_of I) I.goal ≡ true)
  unfolding fit_answer
  both-free =
      ask (routeable (task_of I) I.start)
      (λ s. ask (routeable (task_of I) I.goal) (λ g. (s, g)) (λ g. never (cc (rw (s, g) at said-fit))))
      (λ s. never (cc (rw s at said-fit)))

  -- number 11: the input is posed, and has no lawful way
  posed : Posed (task_of I)
  posed =
      let A = admitted {R = I.room} {C = I.config} {kinds = I.kinds} {start = I.start} {goal = I.goal} {L = I.lengths} fit in
      record { good = A.good; start_in = A.start_in; goal_in = A.goal_in; start-free = both-free.0; goal-free = both-free.1 }

module _ {I : Input} {M M' : Memory} where
  zero_after : (a : Answer) → MemoryAfter a I M M' → (number_of a ≡ no_route_number → ⊥) → touches (number_of a) ≡ true
      → (M'.reached ≡ replicate (length M.reached) 0) × (M'.walls ≡ replicate (length M.walls) 0)
  zero_after (Ok r) A n t = (rw sub-zero at A.reached-is, rw sub-zero at A.walls-is)
  zero_after (Err (Refused Sides)) A n t = never (cc)
  zero_after (Err (Refused Config)) A n t = never (cc)
  zero_after (Err (Refused Buffer)) A n t = never (cc)
  zero_after (Err (Refused Code)) A n t = never (cc)
  zero_after (Err (Refused Position)) A n t = never (cc)
  zero_after (Err (NotRouteable cell)) A n t = (rw sub-zero at A.reached-is, rw sub-zero at A.walls-is)
  zero_after (Err (NoRoute x)) A n t = absurd (n refl)
  zero_after (Err (LimitPassed x)) A n t = (rw sub-zero at A.reached-is, rw sub-zero at A.walls-is)
  zero_after (Err (QueueFull x)) A n t = (rw sub-zero at A.reached-is, rw sub-zero at A.walls-is)

  kept-after : (a : Answer) → MemoryAfter a I M M' → touches (number_of a) ≡ false → M' ≡ M
  kept-after a A f =
      let p : M'.path ≡ M.path = rw f at A.path-is in
      let k : M'.known ≡ M.known = rw f at A.known_is in
      let q : M'.previous ≡ M.previous = rw f at A.previous-is in
      let c : M'.classes ≡ M.classes = rw f at A.classes-is in
      let l : M'.queue ≡ M.queue = rw f at A.queue-is in
      let e : M'.reached ≡ M.reached = rw f at A.reached-is in
      let w : M'.walls ≡ M.walls = rw f at A.walls-is in
      λ i. record { path = p i; known = k i; previous = q i; classes = c i; queue = l i; reached = e i; walls = w i }

module _ {I : Input} {M : Memory} {r : Answer} {M' : Memory} (P : Promise I M r M') where
  abbrev refused : Bool
  refused = outputs_refused I.room I.config (length M.reached) (length M.walls)

  abbrev answer : Answer
  answer = answer_in I M

  -- with both outputs long enough it answers as the search does, and leaves the search's memory as the search does
  pub as_search : refused ≡ false
      → search.Promise I M.path M.known M.previous M.classes M.queue r M'.path M'.known M'.previous M'.classes M'.queue
  as_search f =
      let same = why-same I (length M.reached) (length M.walls) f in
      record {
        answer = P.answer ∙ same;
        path-is = rw same at P.memory.path-is;
        known_is = rw same at P.memory.known_is;
        previous-is = rw same at P.memory.previous-is;
        classes-is = rw same at P.memory.classes-is;
        queue-is = rw same at P.memory.queue-is;
      }

  searched_no_route : number_of r ≡ no_route_number → (x : Nodes) × (answer ≡ Err (NoRoute x)) × (answer_of I ≡ Err (NoRoute x)) × (refused ≡ false)
  searched_no_route z =
      let n = number_no_route r z in
      let a : answer ≡ Err (NoRoute n.0) = sym P.answer ∙ n.1 in
      ask refused
      (λ t. let b = why-short I (length M.reached) (length M.walls) t in never (cc))
      (λ f. (n.0, a, sym (why-same I (length M.reached) (length M.walls) f) ∙ a, f))

  -- what the outputs hold on number 11
  told : number_of r ≡ no_route_number → (M'.reached ≡ filled (reached_of (task_of I)) M.reached) × (M'.walls ≡ filled (walls_of (task_of I)) M.walls)
  told z = let s = searched_no_route z in (rw s.1 at P.memory.reached-is, rw s.1 at P.memory.walls-is)

  -- THE REASON IS TRUE: on number 11 the outputs say which cells lawful steps lead to, and why no step leads further; so there is no way, at any costs and limits
  pub walled_in : number_of r ≡ no_route_number → WalledIn (task_of I) M'.reached M'.walls
  walled_in z =
      let s = searched_no_route z in
      let none : NoLawfulWay (task_of I) = (third_demand I (as_search s.3)).no_route_true z in
      rw ((told z).0, (told z).1) (outputs_say (task_of I) (posed I s.0 s.2) none _ _)

  -- on any other number from 7 on, and on 0, both outputs are zero
  pub else_zero : (number_of r ≡ no_route_number → ⊥) → touches (number_of r) ≡ true
      → (M'.reached ≡ replicate (length M.reached) 0) × (M'.walls ≡ replicate (length M.walls) 0)
  else_zero n t = zero_after answer P.memory (λ z. n (ap number_of P.answer ∙ z)) (rw P.answer at t)

  -- on numbers 2 to 6 all lent memory is as it was
  pub untouched : touches (number_of r) ≡ false → M' ≡ M
  untouched f = kept-after answer P.memory (rw P.answer at f)

-- the outputs depend on the room, its kinds and the ends alone: two questions of these that are answered 11 have equal outputs, of equal lengths
pub outputs-same : {I J : Input} → SameAsked I J → {M M' N N' : Memory} {r s : Answer} → Promise I M r M' → Promise J N s N'
    → number_of r ≡ no_route_number → number_of s ≡ no_route_number → length M.reached ≡ length N.reached → length M.walls ≡ length N.walls
    → (M'.reached ≡ N'.reached) × (M'.walls ≡ N'.walls)
outputs-same {I} {J} S {M} {M'} {N} {N'} P Q y z e f = ((told P y).0 ∙ reached-same ∙ sym (told Q z).0, (told P y).1 ∙ walls-same ∙ sym (told Q z).1)
  where
    reached-same : filled (reached_of (task_of I)) M.reached ≡ filled (reached_of (task_of J)) N.reached
    reached-same = rw (S.room-same, S.kinds-same, S.start-same, S.goal-same, e)

    walls-same : filled (walls_of (task_of I)) M.walls ≡ filled (walls_of (task_of J)) N.walls
    walls-same = rw (S.room-same, S.kinds-same, S.start-same, S.goal-same, f)
