-- Laws of the entry: outputs that suffice, what is lent on, and the promise of `why_no_goal` by its cases.
use Rattle.std.specs.Prelude.{◌≡◌, Some, None, refl, Bool, true, false, not, ◌&&◌, List, [], ℕ, ◌-◌, ◌*◌, ◌≤◌, ◌<◌, eqb, leb, length, take, replicate}
use Rattle.std.proofs.Common.{sym, ap, subst, ◌∙◌, arith, length-take-le}
use Rattle.std.proofs.lemmas.List.{length-replicate}
use borrow.Author.Tests.{le-leb, lt-leb, eqb-true, not-true, not-false}
use Rattle.numbers.specs.Refusals.{buffer_number, queue_full_number, no_goal_number}
use Rattle.basics.specs.Tests.{either, ask, never, and_left, and_right}
use Rattle.basics.specs.Zeros.{zeros-long, cleared-to}
use Rattle.lent.specs.Lent.{touches, output_after, work_after, Cleared}
use Rattle.room.specs.declared.Room.{Room}
use Rattle.room.specs.Room.{Good, volume}
use Rattle.ground.specs.declared.Mode.{Mode}
use Rattle.job_sheet.specs.declared.Job.{Job}
use Rattle.job_sheet.specs.declared.Reading.{Reading}
use Rattle.job_sheet.specs.Sheet.{Contents, Means, Read, is_good}
use Rattle.job_sheet.specs.Accepted.{Accepted}
use Rattle.job_sheet.proofs.Theorems.{one-meaning, accepted-by}
use Rattle.outset.specs.SetOut.{Outset}
use Rattle.outset.specs.SetOut.{ready, SetOut}
use Rattle.outset.specs.SetOutLaws.{use_of, good-room, outset-one}
use Rattle.room_search.specs.Routing.{places_in}
use Rattle.multinet.specs.Tree.{stopped, growth_of}
use Rattle.net_tree.specs.Answers.{Answer, Lent, lent, lengths_of, TreeOutcome, routed, no_tree, plot_for, Comes, answer_of, number_for, lent_after, Promise as TreePromise}
use Rattle.net_tree.specs.declared.memory.Memory.{Memory}
use Rattle.net_tree.specs.Held.{lent_with}
use Rattle.net_tree.specs.SheetTrees.{StopOf}
use Rattle.net_tree.specs.SheetTreeLaws.{stop-of}
use Rattle.net_tree.specs.EntryLaws.{LongEnough, long-enough}
use Rattle.net_tree.specs.PromiseLaws.{read-good}
use Rattle.sink_why.specs.declared.Told.{Told}
use Rattle.sink_why.specs.SinkWhy.{Why, why_with, StoppedAt, no_reason, reason_of, asks_why, unasked, asked, outputs_good, outputs-short, as_tree, Outputs, outputs, Promise}
use Rattle.sink_why.specs.Telling.{memory_of, job_plot, Regrowable, Tells, TellsTurn, SinkReasoned, end_number, FrontAsked, StoppedTold, WhyAsked}
use Rattle.sink_why.specs.TurnLaws.{same_number}

-- ---- outputs that suffice, by cases

module _ (R : Room) (reached walls causes : ℕ) where
  pub short-reached : reached < volume R → false ≡ outputs_good R reached walls causes
  unfolding outputs_good
  short-reached h = rw (lt-leb (volume R) reached h)

  pub short-walls : volume R ≤ reached → walls < 12 * volume R → false ≡ outputs_good R reached walls causes
  unfolding outputs_good
  short-walls r h = rw (le-leb (volume R) reached r, lt-leb (12 * volume R) walls h)

  pub enough-causes : volume R ≤ reached → 12 * volume R ≤ walls → leb (volume R) causes ≡ outputs_good R reached walls causes
  unfolding outputs_good
  enough-causes r w = rw (le-leb (volume R) reached r, le-leb (12 * volume R) walls w)

-- ---- what is lent on

module _ {mode : Mode} {sheet : List ℕ} {job : Job} {B : Lent} {reached walls causes : List ℕ} (A : FrontAsked mode sheet job B reached walls causes) where
  pub regrowable_front : {cells : ℕ} → cells ≡ volume job.room
      → Regrowable mode sheet job (memory_of job B.branches (take cells B.kinds) (take cells B.blocked) (take cells B.classes) (take cells B.joinable) (take cells B.known) (take cells B.previous) (take cells B.path) (take cells B.best) B.queue)
  regrowable_front e = record {
    routable = record {
      accepted = A.accepted;
      branches-clear = A.branches-clear;
      occupied-clear = refl;
      repeaters-clear = refl;
      kinds-long = rw e (length-take-le _ B.kinds A.enough.kinds-enough);
      blocked-long = rw e (length-take-le _ B.blocked A.enough.blocked-enough);
      classes-long = rw e (length-take-le _ B.classes A.enough.classes-enough);
      joinable-long = rw e (length-take-le _ B.joinable A.enough.joinable-enough);
      known-long = rw e (length-take-le _ B.known A.enough.known-enough);
      previous-long = rw e (length-take-le _ B.previous A.enough.previous-enough);
      path-long = rw e (length-take-le _ B.path A.enough.path-enough);
      best-long = rw e (length-take-le _ B.best A.enough.best-enough);
      places-some = A.enough.places-some;
    };
    is-ready = A.is-ready;
    due = A.due;
  }

-- ---- number 13 or 14 is due

asked-touches : (number : ℕ) → asks_why number ≡ true → (touches number ≡ true) × (9 < number)
asked-touches number e =
    ask (eqb number queue_full_number)
    (λ t. let n = eqb-true number queue_full_number t in rw n (refl, omega arith))
    (λ f. let n = eqb-true number no_goal_number (rw f at e) in rw n (refl, omega arith))

-- a tree's end of that number is that number's
stopped-end : (o : TreeOutcome) → asks_why (end_number (answer_of o)) ≡ true → (detail : ℕ) × (o ≡ no_tree (end_number (answer_of o)) detail)
stopped-end (routed bs occupied repeaters) e = never (cc)
stopped-end (no_tree number detail) e = (detail, refl)

pub end-number : (o : TreeOutcome) → end_number (answer_of o) ≡ number_for o
end-number (routed bs occupied repeaters) = refl
end-number (no_tree number detail) = refl

-- zeros, as a buffer has them after such a number
work_zero : (number : ℕ) → touches number ≡ true → (buffer : List ℕ) {after : List ℕ} → after ≡ work_after number buffer → after ≡ replicate (length buffer) 0
work_zero number t buffer e = rw t at e

output_zero : (number : ℕ) → touches number ≡ true → (buffer : List ℕ) {after : List ℕ} → after ≡ output_after number [] buffer → after ≡ replicate (length buffer) 0
output_zero number t buffer e = let z : length buffer - 0 ≡ length buffer = omega arith in (rw t at e) ∙ ap (λ n. replicate n 0) z

as_work : (number : ℕ) → touches number ≡ true → (buffer : List ℕ) → replicate (length buffer) 0 ≡ work_after number buffer
as_work number t buffer = rw t refl

as_output : (number : ℕ) → touches number ≡ true → (buffer : List ℕ) → replicate (length buffer) 0 ≡ output_after number [] buffer
as_output number t buffer = let z : length buffer - 0 ≡ length buffer = omega arith in rw t (ap (λ n. replicate n 0) (sym z))

pub settled_zero : (number : ℕ) → touches number ≡ true → (buffer : List ℕ) {after : List ℕ} → Cleared buffer after → after ≡ output_after number [] buffer
settled_zero number t buffer e = e ∙ as_output number t buffer

pub settled-kept : (number : ℕ) → touches number ≡ false → (buffer : List ℕ) → buffer ≡ output_after number [] buffer
settled-kept number f buffer = rw f refl

-- cleared again
again : (buffer : List ℕ) {once twice : List ℕ} → once ≡ replicate (length buffer) 0 → Cleared once twice → twice ≡ replicate (length buffer) 0
again buffer o c = cleared-to (zeros-long {n = length buffer} o) c

module _ {mode : Mode} {sheet : List ℕ} {job : Job} (B : Lent) {reached walls causes : List ℕ} (W : WhyAsked sheet job reached walls causes) {number detail : ℕ} (a : asks_why number ≡ true)
    (C : Comes mode sheet (lengths_of B) (no_tree number detail)) {B₁ : Lent} (l : B₁ ≡ lent_after (no_tree number detail) B) where
  abbrev t : touches number ≡ true
  t = (asked-touches number a).0

  stop : StopOf mode sheet (lengths_of B) number detail
  stop = stop-of C (asked-touches number a).1

  taken_as : Accepted sheet job
  taken_as = W.accepted stop.contents stop.unrefused.means stop.unrefused.contents-good

  room-is : job.room ≡ stop.contents.room
  room-is = (use_of taken_as).room-is ∙ ap (λ J. J.room) (one-meaning sheet taken_as.contents stop.contents taken_as.means stop.unrefused.means)

  config-is : job.config ≡ stop.contents.config
  config-is = (use_of taken_as).config-is ∙ ap (λ J. J.config) (one-meaning sheet taken_as.contents stop.contents taken_as.means stop.unrefused.means)

  run_is : job.run ≡ stop.contents.run
  run_is = (use_of taken_as).run_is ∙ ap (λ J. J.run) (one-meaning sheet taken_as.contents stop.contents taken_as.means stop.unrefused.means)

  work : (f : Lent → List ℕ) → f (lent_after (no_tree number detail) B) ≡ work_after number (f B) → f B₁ ≡ replicate (length (f B)) 0
  work f e = work_zero number t (f B) (ap f l ∙ e)

  branches_zero : B₁.branches ≡ replicate (length B.branches) 0
  branches_zero = output_zero number t B.branches (ap (λ x. x.branches) l)

  long : (f : Lent → List ℕ) → f (lent_after (no_tree number detail) B) ≡ work_after number (f B) → length (f B₁) ≡ length (f B)
  long f e = zeros-long {n = length (f B)} (work f e)

  -- the plot over the memory as it is now
  same-plot : (O : Outset) (kinds : List ℕ) → plot_for mode stop.contents (lengths_of B) O kinds ≡ job_plot mode job O kinds B₁.queue B₁.branches
  same-plot O kinds = λ i. record {
    room = sym room-is i;
    config = sym config-is i;
    mode = mode;
    run = sym run_is i;
    kinds = kinds;
    places = places_in (sym (long (λ x. x.queue) refl) i);
    buffer = sym (zeros-long {n = length B.branches} branches_zero) i;
    source = O.ends.source;
    taps = O.ends.taps;
  }

  module _ {O : Outset} {kinds nodes blocked : List ℕ} (S : SetOut sheet O kinds nodes blocked) where
    one_set : (O ≡ stop.outset) × (kinds ≡ stop.kinds) × (nodes ≡ stop.nodes) × (blocked ≡ stop.blocked)
    one_set = outset-one (S.is stop.contents stop.unrefused.means) stop.unrefused.is_set

    ready-here : ready O ≡ true
    ready-here = ap ready one_set.0 ∙ stop.unrefused.is-ready

    stops-here : growth_of (job_plot mode job O kinds B₁.queue B₁.branches) blocked ≡ stopped number detail
    stops-here =
        ap (λ P. growth_of P blocked) (sym (same-plot O kinds))
        ∙ (λ i. growth_of (plot_for mode stop.contents (lengths_of B) (one_set.0 i) (one_set.1 i)) (one_set.3 i))
        ∙ stop.stops

  enough : LongEnough (volume job.room) (lengths_of B)
  enough = rw room-is (long-enough stop.contents.room (lengths_of B) stop.unrefused.lengths-good)

  pub front-asked : FrontAsked mode sheet job (memory_of job B₁.branches B₁.kinds B₁.blocked B₁.classes B₁.joinable B₁.known B₁.previous B₁.path B₁.best B₁.queue) reached walls causes
  front-asked = record {
    accepted = taken_as;
    enough = record {
      occupied-enough = rw (length-replicate {A = ℕ} (volume job.room) 0) (omega arith);
      repeaters-enough = rw (length-replicate {A = ℕ} (volume job.room) 0) (omega arith);
      kinds-enough = rw (long (λ x. x.kinds) refl) enough.kinds-enough;
      blocked-enough = rw (long (λ x. x.blocked) refl) enough.blocked-enough;
      classes-enough = rw (long (λ x. x.classes) refl) enough.classes-enough;
      joinable-enough = rw (long (λ x. x.joinable) refl) enough.joinable-enough;
      known-enough = rw (long (λ x. x.known) refl) enough.known-enough;
      previous-enough = rw (long (λ x. x.previous) refl) enough.previous-enough;
      path-enough = rw (long (λ x. x.path) refl) enough.path-enough;
      best-enough = rw (long (λ x. x.best) refl) enough.best-enough;
      places-some = rw (long (λ x. x.queue) refl) enough.places-some;
    };
    branches-clear = cleared-to (sym (zeros-long {n = length B.branches} branches_zero)) branches_zero;
    asks = record { outputs = rw room-is (W.outputs-good stop.contents stop.unrefused.means stop.unrefused.contents-good) };
    is-ready = λ O kinds nodes blocked S. ready-here S;
    due = λ O kinds nodes blocked S. record { number = number; detail = detail; stops = stops-here S };
  }

  -- ---- what is told of it

  module _ {r : Told} {reached' walls' causes' : List ℕ} (R : SinkReasoned mode sheet job B₁.queue B₁.branches reached walls causes r reached' walls' causes') where
    one-contents : R.contents ≡ stop.contents
    one-contents = one-meaning sheet R.contents stop.contents R.means stop.unrefused.means

    -- over the sheet's own plot
    tells-turn : TellsTurn stop.contents (plot_for mode stop.contents (lengths_of B) R.outset R.kinds) R.nodes R.blocked reached walls causes r reached' walls' causes'
    tells-turn =
        subst (λ P. TellsTurn stop.contents P R.nodes R.blocked reached walls causes r reached' walls' causes') (sym (same-plot R.outset R.kinds))
        (subst (λ J. TellsTurn J (job_plot mode job R.outset R.kinds B₁.queue B₁.branches) R.nodes R.blocked reached walls causes r reached' walls' causes') one-contents R.tells)

    here-stops : growth_of (plot_for mode stop.contents (lengths_of B) R.outset R.kinds) R.blocked ≡ stopped number detail
    here-stops = ap (λ P. growth_of P R.blocked) (same-plot R.outset R.kinds) ∙ stops-here R.is_set

    module _ (T : TellsTurn stop.contents (plot_for mode stop.contents (lengths_of B) R.outset R.kinds) R.nodes R.blocked reached walls causes r reached' walls' causes') where
      at_turn : StoppedAt mode sheet (lengths_of B) number detail
      at_turn =
          let q = same_number T.there here-stops in
          record {
            contents = stop.contents;
            outset = R.outset;
            kinds = R.kinds;
            nodes = R.nodes;
            blocked = R.blocked;
            unrefused = record {
              means = stop.unrefused.means;
              contents-good = stop.unrefused.contents-good;
              lengths-good = stop.unrefused.lengths-good;
              is_set = R.is_set.is stop.contents stop.unrefused.means;
              is-ready = R.is-ready;
            };
            turn = T.turn;
            tree = T.tree;
            there = rw (q.0, q.1) at T.there;
          }

      tells-reason : Tells (reason_of at_turn) reached walls causes r reached' walls' causes'
      unfolding at_turn stop
      tells-reason = rw (same_number T.there here-stops).0 at T.tells

      work-after : (buffer : List ℕ) {once twice : List ℕ} → once ≡ replicate (length buffer) 0 → Cleared once twice → twice ≡ work_after number buffer
      work-after buffer o c = again buffer o c ∙ as_work number t buffer

      told_promise : {branches' kinds' blocked' classes' joinable' known' previous' path' best' queue' : List ℕ}
          → StoppedTold (memory_of job B₁.branches B₁.kinds B₁.blocked B₁.classes B₁.joinable B₁.known B₁.previous B₁.path B₁.best B₁.queue) (memory_of job branches' kinds' blocked' classes' joinable' known' previous' path' best' queue')
          → {answer : Answer} → answer ≡ answer_of (no_tree number detail)
          → Promise mode sheet B (outputs reached walls causes) (why_with answer (Some r)) (lent branches' B₁.occupied B₁.repeaters kinds' blocked' classes' joinable' known' previous' path' best' queue') (outputs reached' walls' causes')
      told_promise {branches'} {kinds'} {blocked'} {classes'} {joinable'} {known'} {previous'} {path'} {best'} {queue'} Z e =
          let br : branches' ≡ output_after number [] B.branches = again B.branches branches_zero Z.branches-cleared ∙ as_output number t B.branches in
          let oc : B₁.occupied ≡ output_after number [] B.occupied = ap (λ x. x.occupied) l in
          let re : B₁.repeaters ≡ output_after number [] B.repeaters = ap (λ x. x.repeaters) l in
          let ki : kinds' ≡ work_after number B.kinds = work-after B.kinds (work (λ x. x.kinds) refl) Z.kinds-cleared in
          let bl : blocked' ≡ work_after number B.blocked = work-after B.blocked (work (λ x. x.blocked) refl) Z.blocked-cleared in
          let cl : classes' ≡ work_after number B.classes = work-after B.classes (work (λ x. x.classes) refl) Z.classes-cleared in
          let jo : joinable' ≡ work_after number B.joinable = work-after B.joinable (work (λ x. x.joinable) refl) Z.joinable-cleared in
          let kn : known' ≡ work_after number B.known = work-after B.known (work (λ x. x.known) refl) Z.known-cleared in
          let pr : previous' ≡ work_after number B.previous = work-after B.previous (work (λ x. x.previous) refl) Z.previous-cleared in
          let pa : path' ≡ work_after number B.path = work-after B.path (work (λ x. x.path) refl) Z.path-cleared in
          let be : best' ≡ work_after number B.best = work-after B.best (work (λ x. x.best) refl) Z.best-cleared in
          let qu : queue' ≡ work_after number B.queue = work-after B.queue (work (λ x. x.queue) refl) Z.queue-cleared in
          record {
            outcome = no_tree number detail;
            comes = as_tree W.outputs-good C;
            reason = reason_of at_turn;
            tells = asked number detail refl a at_turn refl;
            why-is =
                (λ i. why_with (e i) (Some (record { place = tells-reason.place_is i; verdict = tells-reason.verdict-is i })))
                ∙ ap (λ b. why_with (answer_of (no_tree number detail)) (either b (Some (record { place = (reason_of at_turn).place; verdict = (reason_of at_turn).verdict })) None)) (sym a);
            lent_is = λ i. lent (br i) (oc i) (re i) (ki i) (bl i) (cl i) (jo i) (kn i) (pr i) (pa i) (be i) (qu i);
            reached-is = rw t tells-reason.reached-is;
            walls-is = rw t tells-reason.walls-is;
            causes-is = rw t tells-reason.causes-is;
          }

-- ---- from the tree's own promise

module _ {mode : Mode} {sheet : List ℕ} {job : Job} {B : Lent} {reached walls causes : List ℕ} (W : WhyAsked sheet job reached walls causes) {w : Answer} {B₁ : Lent}
    (P : TreePromise mode sheet B w B₁) {number : ℕ} (e : number ≡ end_number w) where
  number_is : number ≡ end_number (answer_of P.outcome)
  number_is = e ∙ ap end_number P.answer

  module _ (a : asks_why number ≡ true) where
    stopped_as : (detail : ℕ) × (P.outcome ≡ no_tree number detail)
    stopped_as = let s = stopped-end P.outcome (ap asks_why (sym number_is) ∙ a) in (s.0, s.1 ∙ ap (λ n. no_tree n s.0) (sym number_is))

    comes-so : Comes mode sheet (lengths_of B) (no_tree number stopped_as.0)
    comes-so = subst (λ o. Comes mode sheet (lengths_of B) o) stopped_as.1 P.comes

    lent-so : B₁ ≡ lent_after (no_tree number stopped_as.0) B
    lent-so = P.lent_is ∙ ap (λ o. lent_after o B) stopped_as.1

    pub tree-front : FrontAsked mode sheet job (memory_of job B₁.branches B₁.kinds B₁.blocked B₁.classes B₁.joinable B₁.known B₁.previous B₁.path B₁.best B₁.queue) reached walls causes
    tree-front = front-asked B W a comes-so lent-so

    pub promise_told : {r : Told} {reached' walls' causes' : List ℕ} → SinkReasoned mode sheet job B₁.queue B₁.branches reached walls causes r reached' walls' causes'
        → {branches' kinds' blocked' classes' joinable' known' previous' path' best' queue' : List ℕ}
        → StoppedTold (memory_of job B₁.branches B₁.kinds B₁.blocked B₁.classes B₁.joinable B₁.known B₁.previous B₁.path B₁.best B₁.queue) (memory_of job branches' kinds' blocked' classes' joinable' known' previous' path' best' queue')
        → {y : Why} → y ≡ why_with w (Some r)
        → Promise mode sheet B (outputs reached walls causes) y (lent branches' B₁.occupied B₁.repeaters kinds' blocked' classes' joinable' known' previous' path' best' queue') (outputs reached' walls' causes')
    promise_told R Z y = rw y (told_promise B W a comes-so lent-so R (tells-turn B W a comes-so lent-so R) Z (P.answer ∙ ap answer_of stopped_as.1))

  -- any other number
  pub promise_untold : asks_why number ≡ false → {reached' walls' causes' : List ℕ} → reached' ≡ output_after number [] reached → walls' ≡ output_after number [] walls → causes' ≡ output_after number [] causes
      → {y : Why} → y ≡ why_with w None → Promise mode sheet B (outputs reached walls causes) y B₁ (outputs reached' walls' causes')
  promise_untold f r q k y =
      let n : number ≡ number_for P.outcome = number_is ∙ end-number P.outcome in
      record {
        outcome = P.outcome;
        comes = as_tree W.outputs-good P.comes;
        reason = no_reason;
        tells = unasked (ap asks_why (sym n) ∙ f) refl;
        why-is = y ∙ (λ i. why_with (P.answer i) None) ∙ ap (λ b. why_with (answer_of P.outcome) (either b (Some (record { place = 0; verdict = 0 })) None)) (sym (ap asks_why (sym n) ∙ f));
        lent_is = P.lent_is;
        reached-is = r ∙ ap (λ x. output_after x [] reached) n;
        walls-is = q ∙ ap (λ x. output_after x [] walls) n;
        causes-is = k ∙ ap (λ x. output_after x [] causes) n;
      }

-- ---- the reading

pub room-good : {sheet : List ℕ} {reading : Reading} → Read sheet reading → is_good reading.judgement ≡ true → Good reading.job.room
room-good read g = good-room (accepted-by read g)

module _ {sheet : List ℕ} {reading : Reading} (read : Read sheet reading) (reached walls causes : List ℕ) where
  abbrev is_short : Bool
  is_short = is_good reading.judgement && not (outputs_good reading.job.room (length reached) (length walls) (length causes))

  -- of an accepted sheet
  same-outputs : is_good reading.judgement ≡ true → (J : Contents) → Means sheet J
      → outputs_good J.room (length reached) (length walls) (length causes) ≡ outputs_good reading.job.room (length reached) (length walls) (length causes)
  same-outputs g J m =
      let A = accepted-by read g in
      ap (λ R. outputs_good R (length reached) (length walls) (length causes)) (sym ((use_of A).room-is ∙ ap (λ K. K.room) (one-meaning sheet A.contents J A.means m)))

  pub promise_short : is_short ≡ true → {mode : Mode} {B : Lent} {w : Answer} → w ≡ answer_of (no_tree buffer_number 0)
      → Promise mode sheet B (outputs reached walls causes) (why_with w None) B (outputs reached walls causes)
  promise_short s e =
      let g = and_left (is_good reading.judgement) _ s in
      let A = accepted-by read g in
      let f = not-true (outputs_good reading.job.room (length reached) (length walls) (length causes)) (and_right (is_good reading.judgement) _ s) in
      record {
        outcome = no_tree buffer_number 0;
        comes = outputs-short A.contents A.means A.good (same-outputs g A.contents A.means ∙ f) refl;
        reason = no_reason;
        tells = unasked refl refl;
        why-is = ap (λ x. why_with x None) e;
        lent_is = refl;
        reached-is = refl;
        walls-is = refl;
        causes-is = refl;
      }

  pub why-asked : is_short ≡ false → WhyAsked sheet reading.job reached walls causes
  why-asked s = record {
    accepted = λ J m g. accepted-by read (read-good read m g);
    outputs-good = λ J m g. let h = read-good read m g in same-outputs h J m ∙ not-false (outputs_good reading.job.room (length reached) (length walls) (length causes)) (rw h at s);
  }

-- ---- work memory that one struct holds

pub why-held : {mode : Mode} {sheet : List ℕ} {B : Lent} {W W' : Outputs} {r : Why} {branches occupied repeaters kinds blocked classes joinable known previous path best queue : List ℕ} (M : Memory)
    → Promise mode sheet B W r (lent_with branches occupied repeaters M) W'
    → kinds ≡ M.kinds.now
    → blocked ≡ M.blocked.now
    → classes ≡ M.classes.now
    → joinable ≡ M.joinable.now
    → known ≡ M.known.now
    → previous ≡ M.previous.now
    → path ≡ M.path.now
    → best ≡ M.best.now
    → queue ≡ M.queue.now
    → Promise mode sheet B W r (lent branches occupied repeaters kinds blocked classes joinable known previous path best queue) W'
why-held {mode = mode} {sheet = sheet} {B = B} {W = W} {W' = W'} {r = r} {branches = branches} {occupied = occupied} {repeaters = repeaters} M P e0 e1 e2 e3 e4 e5 e6 e7 e8 =
    subst (λ L. Promise mode sheet B W r L W') (sym (λ i. lent branches occupied repeaters (e0 i) (e1 i) (e2 i) (e3 i) (e4 i) (e5 i) (e6 i) (e7 i) (e8 i))) P
