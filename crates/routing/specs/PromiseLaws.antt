-- The promise of the public search, by its cases; and that it determines everything.
use Rattle.std.specs.Prelude.{◌≡◌, refl, false, ◌&&◌, List, ℕ, eqb, length, get_or, Ok, Err}
use Rattle.std.proofs.Math.Path.{sym}
use Rattle.std.proofs.Common.{ap, ◌∙◌}
use Rattle.std.proofs.Math.Bool.{true}
use Rattle.std.proofs.Math.Nat.{sub-zero}
use Rattle.std.proofs.Math.Dec.{leb, ltb}
use Rattle.basics.specs.Tests.{ask, passed, never}
use Rattle.basics.specs.Lists.{every}
use Rattle.basics.specs.Promises.{Determines}
use Rattle.lent.specs.Lent.{touches, Cleared}
use Rattle.room.specs.declared.Room.{Room}
use Rattle.room.specs.declared.RouterConfig.{RouterConfig}
use Rattle.room.specs.Room.{sides_good, volume}
use Rattle.room.specs.Units.{config_good, kind_known, air}
use Rattle.room.specs.RoomLaws.{good}
use Rattle.room.specs.UnitLaws.{good-config}
use Rattle.best_first.specs.Search as search
use Rattle.routing.specs.declared.Lengths.{Lengths}
use Rattle.routing.specs.declared.Refusal.{Refusal}
use Rattle.routing.specs.declared.Refusal.TheVariants.{Sides, Config, Buffer, Code, Position}
use Rattle.routing.specs.Answers.{Answer}
use Rattle.routing.specs.declared.Unrouted.TheVariants.{Refused, NotRouteable}
use Rattle.room_search.specs.Routing.{Task, places_in, routeable_kind, routeable, searched}
use Rattle.room_search.specs.TriedMoves.{places_of}
use Rattle.room_search.specs.SearchEndLaws.{start-is-end, goal-is-end}
use Rattle.routing.specs.Answers.{Input, task_in, task_of, buffers_good, ends_inside, judged, answered, fit_answer, answer_of, refusal_number, number_of, cells_of, cells_for, Promise, input, lengths_of}
use Rattle.routing.specs.Entry.{ends_fit, Admitted, Fitted}

-- ---- an input that is judged fit

differ : {X : Type 0} (why : Refusal) → Err why ≡ Ok (tt {0}) → X
differ why e = never (cc)

record Passed (R : Room) (C : RouterConfig) (kinds : List ℕ) (start goal : ℕ) (L : Lengths) : Type 0 where
  sides : sides_good R ≡ true
  config : config_good R C ≡ true
  buffers : buffers_good R kinds L ≡ true
  ends : ends_inside R start goal ≡ true

module _ {R : Room} {C : RouterConfig} {kinds : List ℕ} {start goal : ℕ} {L : Lengths} where
  fit_passed : judged (input R C kinds start goal L) ≡ Ok tt → Passed R C kinds start goal L
  unfolding judged
  fit_passed e =
      ask (sides_good R)
      (λ a. ask (config_good R C)
      (λ b. ask (buffers_good R kinds L)
      (λ c. ask (every kind_known kinds)
      (λ d. ask (ends_inside R start goal)
      (λ f. record { sides = a; config = b; buffers = c; ends = f })
      (λ n. differ Position (rw (a, b, c, d, n) at e)))
      (λ n. differ Code (rw (a, b, c, n) at e)))
      (λ n. differ Buffer (rw (a, b, n) at e)))
      (λ n. differ Config (rw (a, n) at e)))
      (λ n. differ Sides (rw n at e))

  pub admitted : judged (input R C kinds start goal L) ≡ Ok tt → Admitted R C kinds start goal L
  unfolding buffers_good ends_inside
  admitted e =
      let p = fit_passed e in
      let b : (eqb (length kinds) (volume R)
      && (leb (volume R) L.path && (leb (volume R) L.known && (leb (volume R) L.previous && (leb (volume R) L.classes && leb 1 (places_in L.queue)))))) ≡ true = p.buffers in
      let i : (ltb start (volume R) && ltb goal (volume R)) ≡ true = p.ends in
      record {
        good = good R p.sides;
        config-good = good-config R C p.config;
        kinds-long = search passed;
        start_in = search passed;
        goal_in = search passed;
        path-enough = search passed;
        known-enough = search passed;
        previous-enough = search passed;
        classes-enough = search passed;
        places-some = search passed;
      }

-- ---- the cases

other-end : {cell : ℕ} → Ok (tt {0}) ≡ Err cell → ⊥
other-end e = never (cc)

touched : (T : Task) (a : search.Answer) → touches (number_of (answered T a)) ≡ true
touched T (search.route p c x) = refl
touched T (search.no_route x) = refl
touched T (search.limit-passed x) = refl
touched T (search.queue-full x) = refl

pub untouched : (why : Refusal) → touches (refusal_number why) ≡ false
untouched Sides = refl
untouched Config = refl
untouched Position = refl
untouched Code = refl
untouched Buffer = refl

module _ (R : Room) (C : RouterConfig) (kinds : List ℕ) (start goal : ℕ) (path known previous classes queue : List ℕ) where
  abbrev I : Input
  I = input R C kinds start goal (lengths_of path known previous classes queue)

  -- refused before anything is touched
  pub promise_unfit : (why : Refusal) → judged I ≡ Err why
      → Promise I path known previous classes queue (Err (Refused why)) path known previous classes queue
  unfolding answer_of
  promise_unfit why e = record {
    answer = rw e;
    path-is = rw (e, untouched why);
    known_is = rw (e, untouched why);
    previous-is = rw (e, untouched why);
    classes-is = rw (e, untouched why);
    queue-is = rw (e, untouched why);
  }

  module _ (fit : judged I ≡ Ok tt) where
    start_is : routeable (task_of I) start ≡ routeable_kind true (get_or kinds start air)
    unfolding routeable
    start_is = rw (start-is-end start goal)

    goal-is : routeable (task_of I) goal ≡ routeable_kind true (get_or kinds goal air)
    unfolding routeable
    goal-is = rw (goal-is-end start goal)

    -- number 10
    pub promise_end : (cell : ℕ) {path' known' previous' classes' queue' : List ℕ} → Err cell ≡ ends_fit kinds start goal → Cleared path path' → Cleared known known' → Cleared previous previous'
        → Cleared classes classes' → Cleared queue queue'
        → Promise I path known previous classes queue (Err (NotRouteable cell)) path' known' previous' classes' queue'
    unfolding answer_of fit_answer
    promise_end cell e a b c d f = record {
      answer = sym is;
      path-is = rw (is, sub-zero) a;
      known_is = rw is b;
      previous-is = rw is c;
      classes-is = rw is d;
      queue-is = rw is f;
    }
      where
        is : answer_of I ≡ Err (NotRouteable cell)
        is =
            rw (fit, start_is, goal-is)
            (ask (routeable_kind true (get_or kinds start air))
            (λ s. ask (routeable_kind true (get_or kinds goal air))
            (λ g. absurd (other-end (sym (rw (s, g) at e))))
            (λ g. rw (s, g) (let q : Err cell ≡ Err goal = rw (s, g) at e in let k : cell ≡ goal = cc in rw k)))
            (λ s. rw s (let q : Err cell ≡ Err start = rw s at e in let k : cell ≡ start = cc in rw k)))

    cells_are : (a : search.Answer) → searched (task_of I) ≡ a → cells_for (answered (task_of I) a) I ≡ cells_of a
    cells_are (search.route p c x) e = ap cells_of e
    cells_are (search.no_route x) e = refl
    cells_are (search.limit-passed x) e = refl
    cells_are (search.queue-full x) e = refl

    both-free : Ok tt ≡ ends_fit kinds start goal → answer_of I ≡ answered (task_of I) (searched (task_of I))
    unfolding answer_of fit_answer
    both-free e =
        rw (fit, start_is, goal-is)
        (ask (routeable_kind true (get_or kinds start air))
        (λ s. ask (routeable_kind true (get_or kinds goal air)) (λ g. rw (s, g)) (λ g. absurd (other-end (rw (s, g) at e))))
        (λ s. absurd (other-end (rw s at e))))

    -- the defined search
    pub promise_searched : (r : Answer) {path' known' previous' classes' queue' : List ℕ} → Ok tt ≡ ends_fit kinds start goal
        → Fitted (task_in R C kinds start goal (places_of queue)) path known previous classes queue r path' known' previous' classes' queue'
        → Promise I path known previous classes queue r path' known' previous' classes' queue'
    promise_searched r e F =
        let is = both-free e in
        let t = touched (task_of I) (searched (task_of I)) in
        record {
          answer = F.answer ∙ sym is;
          path-is = rw (is, t, cells_are (searched (task_of I)) refl) F.path-is;
          known_is = rw (is, t) F.known_is;
          previous-is = rw (is, t) F.previous-is;
          classes-is = rw (is, t) F.classes-is;
          queue-is = rw (is, t) F.queue-is;
        }

-- ---- two results that keep the promise coincide: the answer, and every byte of lent memory

pub record Result : Type 0 where
  pub answer : Answer
  pub path : List ℕ
  pub known : List ℕ
  pub previous : List ℕ
  pub classes : List ℕ
  pub queue : List ℕ

module _ (I : Input) (path known previous classes queue : List ℕ) where
  abbrev pub Keeps : Result → Type 0
  Keeps R = Promise I path known previous classes queue R.answer R.path R.known R.previous R.classes R.queue

  pub coincide : Determines Keeps
  coincide x y P Q = λ i. record {
    answer = (P.answer ∙ sym Q.answer) i;
    path = (P.path-is ∙ sym Q.path-is) i;
    known = (P.known_is ∙ sym Q.known_is) i;
    previous = (P.previous-is ∙ sym Q.previous-is) i;
    classes = (P.classes-is ∙ sym Q.classes-is) i;
    queue = (P.queue-is ∙ sym Q.queue-is) i;
  }
