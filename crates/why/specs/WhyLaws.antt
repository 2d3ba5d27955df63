-- The promise of `why_no_route`, by its cases; and that it determines everything.
use Rattle.std.specs.Prelude.{◌≡◌, refl, Bool, false, not, ◌&&◌, List, ℕ, ◌*◌, ◌≤◌, ◌<◌, ltb, length, replicate, Ok, Err}
use Rattle.std.proofs.Common.{sym, ◌∙◌, arith}
use Rattle.std.proofs.Math.Bool.{true}
use Rattle.std.proofs.Math.Nat.{sub-zero}
use Rattle.std.proofs.Math.Dec.{leb}
use borrow.Author.Tests.{leb-true, le-leb, lt-leb, lt-ltb, le-ltb}
use Rattle.basics.specs.Tests.{ask, ask_less, and_left, and_right, never}
use Rattle.basics.specs.Promises.{Determines}
use Rattle.basics.specs.Zeros.{zeros-long, cleared-to}
use Rattle.room.specs.declared.Room.{Room}
use Rattle.room.specs.declared.RouterConfig.{RouterConfig}
use Rattle.room.specs.declared.Nodes.{Nodes}
use Rattle.room.specs.Room.{sides_good, volume}
use Rattle.room.specs.Units.{config_good}
use Rattle.routing.specs.Answers.{Answer}
use Rattle.routing.specs.declared.Unrouted.TheVariants.{Refused, NotRouteable, NoRoute, LimitPassed, QueueFull}
use Rattle.routing.specs.declared.Lengths.{Lengths}
use Rattle.routing.specs.declared.Refusal.{Refusal}
use Rattle.routing.specs.declared.Refusal.TheVariants.{Sides, Config, Buffer, Code, Position}
use Rattle.routing.specs.Answers as search
use Rattle.routing.specs.Answers.{Input, input, lengths_of, task_of, judged, answer_of, Judgement}
use Rattle.routing.specs.PromiseLaws.{admitted}
use Rattle.why.specs.declared.Outputs.TheVariants.{Kept, Told, Zero}
use Rattle.why.specs.Why.{outputs_good, outputs_refused, why_answer, Memory, memory, MemoryAfter, Promise}
use Rattle.why.specs.Telling.{Tellable, WhyTold, outputs_for, Explained}

-- ---- number 6 for the outputs

not_not : (b : Bool) → not b ≡ false → b ≡ true
not_not true e = refl
not_not false e = never (cc)

module _ (I : Input) (reached walls : ℕ) where
  abbrev refused : Bool
  refused = outputs_refused I.room I.config reached walls

  -- the search's own answer, unless an output is too short
  pub why-same : refused ≡ false → why_answer I reached walls ≡ answer_of I
  unfolding why_answer
  why-same e = rw e

  pub why-short : refused ≡ true → why_answer I reached walls ≡ Err (Refused Buffer)
  unfolding why_answer
  why-short e = rw e

-- on number 11 the input is fit
pub no_route_fit : (I : Input) (x : Nodes) → answer_of I ≡ Err (NoRoute x) → judged I ≡ Ok tt
unfolding answer_of
no_route_fit I x e = go (judged I) refl
  where
    go : (j : Judgement) → judged I ≡ j → judged I ≡ Ok tt
    go (Ok _) q = q
    go (Err why) q = never (cc (rw q at e))

-- the tests of the code, one by one
module _ (R : Room) (C : RouterConfig) (reached walls : ℕ) where
  pub short-sides : sides_good R ≡ false → false ≡ outputs_refused R C reached walls
  unfolding outputs_refused
  short-sides s = rw s

  pub short-config : sides_good R ≡ true → config_good R C ≡ false → false ≡ outputs_refused R C reached walls
  unfolding outputs_refused
  short-config s k = rw (s, k)

  module _ (s : sides_good R ≡ true) (k : config_good R C ≡ true) where
    pub short-reached : reached < volume R → true ≡ outputs_refused R C reached walls
    unfolding outputs_refused outputs_good
    short-reached h = rw (s, k, lt-leb (volume R) reached h)

    pub short-walls : volume R ≤ reached → ltb walls (12 * volume R) ≡ outputs_refused R C reached walls
    unfolding outputs_refused outputs_good
    short-walls h =
        rw (s, k, le-leb (volume R) reached h)
        (ask_less walls (12 * volume R) (λ l. rw (lt-ltb walls (12 * volume R) l, lt-leb (12 * volume R) walls l)) (λ l. rw (le-ltb walls (12 * volume R) l, le-leb (12 * volume R) walls l)))

    outputs-good : outputs_refused R C reached walls ≡ false → outputs_good R reached walls ≡ true
    unfolding outputs_refused
    outputs-good e = not_not _ (rw (s, k) at e)

    pub outputs-enough : outputs_refused R C reached walls ≡ false → (volume R ≤ reached) × (12 * volume R ≤ walls)
    unfolding outputs_good
    outputs-enough e =
        let g : (leb (volume R) reached && leb (12 * volume R) walls) ≡ true = outputs-good e in
        (leb-true (volume R) reached (and_left _ _ g), leb-true (12 * volume R) walls (and_right (leb (volume R) reached) _ g))

-- ---- the outputs that go with an answer

pub told_no_route : (a : Answer) → outputs_for a ≡ Told → (x : Nodes) × (a ≡ Err (NoRoute x))
told_no_route (Ok r) e = never (cc)
told_no_route (Err (Refused why)) e = never (cc)
told_no_route (Err (NotRouteable cell)) e = never (cc)
told_no_route (Err (NoRoute x)) e = (x, refl)
told_no_route (Err (LimitPassed x)) e = never (cc)
told_no_route (Err (QueueFull x)) e = never (cc)

module _ {R : Room} {kinds : List ℕ} {start goal : ℕ} {path classes reached walls : List ℕ} where
  pub explained_kept : (a : Answer) → outputs_for a ≡ Kept → Explained a R kinds start goal path classes reached walls path classes reached walls
  explained_kept (Ok r) e = never (cc)
  explained_kept (Err (Refused Sides)) e = record { path-kept = refl; classes-kept = refl; reached-is = λ C n. refl; walls-is = λ C n. refl }
  explained_kept (Err (Refused Config)) e = record { path-kept = refl; classes-kept = refl; reached-is = λ C n. refl; walls-is = λ C n. refl }
  explained_kept (Err (Refused Buffer)) e = record { path-kept = refl; classes-kept = refl; reached-is = λ C n. refl; walls-is = λ C n. refl }
  explained_kept (Err (Refused Code)) e = record { path-kept = refl; classes-kept = refl; reached-is = λ C n. refl; walls-is = λ C n. refl }
  explained_kept (Err (Refused Position)) e = record { path-kept = refl; classes-kept = refl; reached-is = λ C n. refl; walls-is = λ C n. refl }
  explained_kept (Err (NotRouteable cell)) e = never (cc)
  explained_kept (Err (NoRoute x)) e = never (cc)
  explained_kept (Err (LimitPassed x)) e = never (cc)
  explained_kept (Err (QueueFull x)) e = never (cc)

  module _ {path' classes' reached' walls' : List ℕ} where
    pub explained_told : (a : Answer) → outputs_for a ≡ Told → WhyTold R kinds start goal path classes reached walls path' classes' reached' walls'
        → Explained a R kinds start goal path classes reached walls path' classes' reached' walls'
    explained_told (Ok r) e W = never (cc)
    explained_told (Err (Refused why)) e W = never (cc)
    explained_told (Err (NotRouteable cell)) e W = never (cc)
    explained_told (Err (NoRoute x)) e W = record {
      path-kept = W.path-kept;
      classes-kept = W.classes-kept;
      reached-is = λ C n. W.reached-is;
      walls-is = λ C n. W.walls-is;
    }
    explained_told (Err (LimitPassed x)) e W = never (cc)
    explained_told (Err (QueueFull x)) e W = never (cc)

  module _ {reached' walls' : List ℕ} (r : reached' ≡ replicate (length reached) 0) (w : walls' ≡ replicate (length walls) 0) where
    pub explained_zero : (a : Answer) → outputs_for a ≡ Zero → Explained a R kinds start goal path classes reached walls path classes reached' walls'
    explained_zero (Ok x) e = record { path-kept = refl; classes-kept = refl; reached-is = λ C n. rw sub-zero r; walls-is = λ C n. rw sub-zero w }
    explained_zero (Err (Refused why)) e = never (cc)
    explained_zero (Err (NotRouteable cell)) e = record { path-kept = refl; classes-kept = refl; reached-is = λ C n. rw sub-zero r; walls-is = λ C n. rw sub-zero w }
    explained_zero (Err (NoRoute x)) e = never (cc)
    explained_zero (Err (LimitPassed x)) e = record { path-kept = refl; classes-kept = refl; reached-is = λ C n. rw sub-zero r; walls-is = λ C n. rw sub-zero w }
    explained_zero (Err (QueueFull x)) e = record { path-kept = refl; classes-kept = refl; reached-is = λ C n. rw sub-zero r; walls-is = λ C n. rw sub-zero w }

-- ---- the promise

fit_sides : (R : Room) (C : RouterConfig) (kinds : List ℕ) (start goal : ℕ) (L : Lengths) → judged (input R C kinds start goal L) ≡ Ok tt
    → (sides_good R ≡ true) × (config_good R C ≡ true)
unfolding judged
fit_sides R C kinds start goal L e =
    ask (sides_good R) (λ s. ask (config_good R C) (λ k. (s, k)) (λ k. never (cc (rw (s, k) at e)))) (λ s. never (cc (rw s at e)))

module _ (R : Room) (C : RouterConfig) (kinds : List ℕ) (start goal : ℕ) (path known previous classes queue reached walls : List ℕ) where
  abbrev I : Input
  I = input R C kinds start goal (lengths_of path known previous classes queue)

  abbrev M : Memory
  M = memory path known previous classes queue reached walls

  abbrev is_refused : Bool
  is_refused = outputs_refused R C (length reached) (length walls)

  pub promise_short : is_refused ≡ true → Promise I M (Err (Refused Buffer)) M
  promise_short e =
      let is = why-short I (length reached) (length walls) e in
      record {
        answer = sym is;
        memory = rw is (record { path-is = refl; known_is = refl; previous-is = refl; classes-is = refl; queue-is = refl; reached-is = refl; walls-is = refl });
      }

  module _ (enough : is_refused ≡ false) {r : Answer} {path' known' previous' classes' queue' : List ℕ}
      (P : search.Promise I path known previous classes queue r path' known' previous' classes' queue') where
    -- what the outputs ask, on number 11
    pub no_route_tellable : (x : Nodes) → r ≡ Err (NoRoute x) → Tellable R kinds start goal path' classes' reached walls
    no_route_tellable x e =
        let a : answer_of I ≡ Err (NoRoute x) = sym P.answer ∙ e in
        let fit = no_route_fit I x a in
        let A = admitted {R = R} {C = C} {kinds = kinds} {start = start} {goal = goal} {L = lengths_of path known previous classes queue} fit in
        let s = fit_sides R C kinds start goal (lengths_of path known previous classes queue) fit in
        let o = outputs-enough R C (length reached) (length walls) s.0 s.1 enough in
        let p : path' ≡ replicate (length path) 0 = rw (a, sub-zero) at P.path-is in
        let c : classes' ≡ replicate (length classes) 0 = rw a at P.classes-is in
        let pl : length path' ≡ length path = zeros-long p in
        let cl : length classes' ≡ length classes = zeros-long c in
        record {
          good = A.good;
          kinds-long = A.kinds-long;
          start_in = A.start_in;
          goal_in = A.goal_in;
          path-enough = omega (arith, pl, A.path-enough);
          classes-enough = omega (arith, cl, A.classes-enough);
          reached-enough = o.0;
          walls-enough = o.1;
          path_zero = cleared-to (sym pl) p;
          classes_zero = cleared-to (sym cl) c;
        }

    pub promise_explained : {path'' classes'' reached'' walls'' : List ℕ}
        → Explained r R kinds start goal path' classes' reached walls path'' classes'' reached'' walls''
        → Promise I M r (memory path'' known' previous' classes'' queue' reached'' walls'')
    promise_explained E =
        let same = why-same I (length reached) (length walls) enough in
        record {
          answer = P.answer ∙ sym same;
          memory = rw same (record {
            path-is = E.path-kept ∙ P.path-is;
            known_is = P.known_is;
            previous-is = P.previous-is;
            classes-is = E.classes-kept ∙ P.classes-is;
            queue-is = P.queue-is;
            reached-is = rw P.answer at (E.reached-is (task_of I).config (task_of I).places);
            walls-is = rw P.answer at (E.walls-is (task_of I).config (task_of I).places);
          });
        }

-- ---- two results that keep the promise coincide: the answer, and every byte of lent memory

pub memory-one : {a : Answer} {I : Input} {M M' M'' : Memory} → MemoryAfter a I M M' → MemoryAfter a I M M'' → M' ≡ M''
memory-one P Q = λ i. record {
  path = (P.path-is ∙ sym Q.path-is) i;
  known = (P.known_is ∙ sym Q.known_is) i;
  previous = (P.previous-is ∙ sym Q.previous-is) i;
  classes = (P.classes-is ∙ sym Q.classes-is) i;
  queue = (P.queue-is ∙ sym Q.queue-is) i;
  reached = (P.reached-is ∙ sym Q.reached-is) i;
  walls = (P.walls-is ∙ sym Q.walls-is) i;
}

pub record Result : Type 0 where
  pub answer : Answer
  pub memory : Memory

module _ (I : Input) (M : Memory) where
  abbrev pub Keeps : Result → Type 0
  Keeps R = Promise I M R.answer R.memory

  pub coincide : Determines Keeps
  coincide x y P Q = λ i. record { answer = (P.answer ∙ sym Q.answer) i; memory = memory-one P.memory Q.memory i }
