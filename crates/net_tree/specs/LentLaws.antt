-- Laws of what is lent: cleared outputs, the promise of `route_net_tree` by its cases.
use Rattle.std.specs.Prelude.{◌≡◌, refl, true, false, List, [], ◌++◌, ℕ, ◌+◌, ◌-◌, ◌≤◌, ◌<◌, length, drop, replicate}
use Rattle.std.proofs.Common.{sym, ap, ◌∙◌, arith, length-append, length-drop, lt-ltb, ne_eqb}
use Rattle.numbers.specs.Refusals.{done_number, buffer_number}
use Rattle.basics.specs.Tests.{never}
use Rattle.basics.specs.Zeros.{drop_zeros, zeros-long, cleared-to}
use Rattle.basics.specs.Lists.{joined}
use Rattle.lent.specs.Lent.{touches, filled, output_after, work_after, Cleared}
use Rattle.room.specs.Room.{volume}
use Rattle.ground.specs.declared.Mode.{Mode}
use Rattle.job_sheet.specs.declared.Job.{Job}
use Rattle.job_sheet.specs.declared.Reading.{Reading}
use Rattle.job_sheet.specs.declared.Judgement.{Judgement}
use Rattle.job_sheet.specs.declared.Judgement.TheVariants as judgement
use Rattle.job_sheet.specs.Sheet.{Read, is_good, number_of}
use Rattle.job_sheet.specs.Accepted.{Accepted}
use Rattle.job_sheet.proofs.Theorems.{usable}
use Rattle.net_tree.specs.Answers.{Answer, Lent, lent, lengths_of, buffers_good, TreeOutcome, routed, no_tree, job_outcome, Comes, unread, unlent, set_out, answer_of, number_for, branches_for, occupied_for, repeaters_for, lent_after, Promise}
use Rattle.net_tree.specs.declared.memory.Memory.{Memory}
use Rattle.net_tree.specs.Held.{lent_with}
use Rattle.net_tree.specs.Entry.{OutputsHold, Lendable, OutputsClear, FrontRouted, settled_by}
use Rattle.net_tree.specs.EntryLaws.{enough}

-- ---- cleared outputs

high : {number : ℕ} → buffer_number < number → touches number ≡ true
high {number} h = rw (ne_eqb number done_number (omega arith), lt-ltb buffer_number number h)

module _ {sheet : List ℕ} {job : Job} {B : Lent} (A : Lendable sheet job B) {branches occupied repeaters : List ℕ}
    (eb : Cleared B.branches branches) (eo : Cleared B.occupied occupied) (er : Cleared B.repeaters repeaters) where
  abbrev clean : Lent
  clean = lent branches occupied repeaters B.kinds B.blocked B.classes B.joinable B.known B.previous B.path B.best B.queue

  same-lengths : lengths_of clean ≡ lengths_of B
  same-lengths = λ i. record {
    branches = zeros-long {n = length B.branches} eb i;
    occupied = zeros-long {n = length B.occupied} eo i;
    repeaters = zeros-long {n = length B.repeaters} er i;
    kinds = length B.kinds;
    blocked = length B.blocked;
    classes = length B.classes;
    joinable = length B.joinable;
    known = length B.known;
    previous = length B.previous;
    path = length B.path;
    best = length B.best;
    queue = length B.queue;
  }

  pub clean-lendable : Lendable sheet job clean
  clean-lendable = record { accepted = A.accepted; buffers = ap (buffers_good job.room) same-lengths ∙ A.buffers }

  pub clean-cleared : OutputsClear clean
  clean-cleared = record {
    branches-clear = cleared-to (sym (zeros-long {n = length B.branches} eb)) eb;
    occupied-clear = cleared-to (sym (zeros-long {n = length B.occupied} eo)) eo;
    repeaters-clear = cleared-to (sym (zeros-long {n = length B.repeaters} er)) er;
  }

  -- ---- what comes of the job

  module _ {mode : Mode} {r : Answer} {branches' occupied' repeaters' : List ℕ} (F : FrontRouted mode sheet job clean r branches' occupied' repeaters')
      (kb : length branches' ≡ length branches) (ko : length occupied' ≡ length occupied) (kr : length repeaters' ≡ length repeaters) where
    abbrev job-outcome : TreeOutcome
    job-outcome = F.is-routed.outcome

    comes : Comes mode sheet (lengths_of B) job-outcome
    comes =
        let told = A.accepted.contents in
        let J = F.is-routed in
        set_out told A.accepted.means A.accepted.good (ap (λ R. buffers_good R (lengths_of B)) (sym (usable sheet job A.accepted).room-is) ∙ A.buffers)
        J.outset J.kinds J.nodes J.blocked (J.is_set told A.accepted.means)
        (J.comes told A.accepted.means ∙ ap (λ L. job_outcome mode told L J.outset J.kinds J.blocked) same-lengths)

    touched : (o : TreeOutcome) → OutputsHold o branches branches' F.occupied-front F.repeaters-front → touches (number_for o) ≡ true
    touched (routed bs marks repeating) w = refl
    touched (no_tree number detail) w = high w

    -- marks in front of a cleared buffer
    marks-behind : (before : List ℕ) {zeros : List ℕ} (marks : List ℕ) {after : List ℕ} → Cleared before zeros → volume job.room ≤ length before
        → after ≡ marks ++ drop (volume job.room) zeros → length after ≡ length zeros → after ≡ filled marks before
    marks-behind before {zeros = zeros} marks e h a k =
        let n = volume job.room in
        let whole : length marks + length (drop n zeros) ≡ length zeros = sym (length-append marks (drop n zeros)) ∙ ap length (sym a) ∙ k in
        let m : length marks ≡ n = omega (arith, whole, length-drop n zeros, zeros-long {n = length before} e, h) in
        a ∙ ap (λ l. marks ++ l) (ap (drop n) e ∙ drop_zeros n (length before) ∙ ap (λ x. replicate (length before - x) 0) (sym m))

    -- a refusal leaves zeros
    refused-after : {number : ℕ} → buffer_number < number → (buffer mid : List ℕ) {zeros : List ℕ} → length mid ≡ length zeros → Cleared buffer zeros
        → replicate (length mid) 0 ≡ output_after number [] buffer
    refused-after {number = number} h buffer mid k e =
        let z : length buffer - 0 ≡ length mid = omega (arith, k, zeros-long {n = length buffer} e) in
        rw (high h) (ap (λ n. replicate n 0) (sym z))

    module _ {branches'' occupied'' repeaters'' : List ℕ}
        (sb : branches'' ≡ settled_by r branches') (so : occupied'' ≡ settled_by r occupied') (sr : repeaters'' ≡ settled_by r repeaters') where
      record Outputs (o : TreeOutcome) : Type 0 where
        branches-are : branches'' ≡ output_after (number_for o) (branches_for o) B.branches
        occupied-are : occupied'' ≡ output_after (number_for o) (occupied_for o) B.occupied
        repeaters-are : repeaters'' ≡ output_after (number_for o) (repeaters_for o) B.repeaters

      outputs : (o : TreeOutcome) → r ≡ answer_of o → OutputsHold o branches branches' F.occupied-front F.repeaters-front → Outputs o
      outputs (routed bs marks repeating) a w = record {
        branches-are = sb ∙ ap (λ x. settled_by x branches') a ∙ w.0 ∙ ap (λ n. joined bs ++ replicate (n - length (joined bs)) 0) (zeros-long {n = length B.branches} eb);
        occupied-are =
            so ∙ ap (λ x. settled_by x occupied') a
            ∙ marks-behind B.occupied marks eo (enough A).occupied-enough (F.occupied-is ∙ ap (λ l. l ++ drop (volume job.room) occupied) w.1) ko;
        repeaters-are =
            sr ∙ ap (λ x. settled_by x repeaters') a
            ∙ marks-behind B.repeaters repeating er (enough A).repeaters-enough (F.repeaters-is ∙ ap (λ l. l ++ drop (volume job.room) repeaters) w.2) kr;
      }
      outputs (no_tree number detail) a w = record {
        branches-are = sb ∙ ap (λ x. settled_by x branches') a ∙ refused-after w B.branches branches' kb eb;
        occupied-are = so ∙ ap (λ x. settled_by x occupied') a ∙ refused-after w B.occupied occupied' ko eo;
        repeaters-are = sr ∙ ap (λ x. settled_by x repeaters') a ∙ refused-after w B.repeaters repeaters' kr er;
      }

      work-after : (buffer mid : List ℕ) {final : List ℕ} → length mid ≡ length buffer → Cleared mid final → final ≡ work_after (number_for job-outcome) buffer
      work-after buffer mid k e = e ∙ rw (touched job-outcome F.is-routed.outputs) (ap (λ n. replicate n 0) k)

      -- work memory that keeps its lengths, and is cleared
      pub promised : (kinds blocked classes joinable known previous path best queue : List ℕ) {kinds' blocked' classes' joinable' known' previous' path' best' queue' : List ℕ}
          → length kinds ≡ length B.kinds
          → length blocked ≡ length B.blocked
          → length classes ≡ length B.classes
          → length joinable ≡ length B.joinable
          → length known ≡ length B.known
          → length previous ≡ length B.previous
          → length path ≡ length B.path
          → length best ≡ length B.best
          → length queue ≡ length B.queue
          → Cleared kinds kinds'
          → Cleared blocked blocked'
          → Cleared classes classes'
          → Cleared joinable joinable'
          → Cleared known known'
          → Cleared previous previous'
          → Cleared path path'
          → Cleared best best'
          → Cleared queue queue'
          → Promise mode sheet B r (lent branches'' occupied'' repeaters'' kinds' blocked' classes' joinable' known' previous' path' best' queue')
      promised kinds blocked classes joinable known previous path best queue lki lbl lcl ljo lkn lpr lpa lbe lqu eki ebl ecl ejo ekn epr epa ebe equ =
          let O = outputs job-outcome F.is-routed.answer F.is-routed.outputs in
          record {
            outcome = job-outcome;
            comes = comes;
            answer = F.is-routed.answer;
            lent_is = λ i. lent (O.branches-are i) (O.occupied-are i) (O.repeaters-are i) (work-after B.kinds kinds lki eki i) (work-after B.blocked blocked lbl ebl i) (work-after B.classes classes lcl ecl i) (work-after B.joinable joinable ljo ejo i) (work-after B.known known lkn ekn i) (work-after B.previous previous lpr epr i) (work-after B.path path lpa epa i) (work-after B.best best lbe ebe i) (work-after B.queue queue lqu equ i);
          }

-- ---- refused before anything is touched

small-stays : (B : Lent) (o : TreeOutcome) → touches (number_for o) ≡ false → B ≡ lent_after o B
small-stays B o e = rw e refl

pub unread-touches-none : (v : Judgement) → is_good v ≡ false → touches (number_of v) ≡ false
unread-touches-none judgement.Good e = never (cc)
unread-touches-none judgement.Sheet e = refl
unread-touches-none judgement.Sides e = refl
unread-touches-none judgement.Config e = refl
unread-touches-none judgement.Position e = refl
unread-touches-none judgement.Code e = refl

-- numbers 1 to 5
pub promise_unread : {mode : Mode} {sheet : List ℕ} {B : Lent} {reading : Reading} → Read sheet reading → is_good reading.judgement ≡ false → {r : Answer} → r ≡ answer_of (no_tree (number_of reading.judgement) 0) → Promise mode sheet B r B
promise_unread {B = B} {reading = reading} p f a = record {
  outcome = no_tree (number_of reading.judgement) 0;
  comes = unread reading p f refl;
  answer = a;
  lent_is = small-stays B (no_tree (number_of reading.judgement) 0) (unread-touches-none reading.judgement f);
}

-- number 6
pub promise_unlent : {mode : Mode} {sheet : List ℕ} {B : Lent} {job : Job} → Accepted sheet job → buffers_good job.room (lengths_of B) ≡ false → {r : Answer} → r ≡ answer_of (no_tree buffer_number 0) → Promise mode sheet B r B
promise_unlent {sheet = sheet} {B = B} {job = job} A f a = record {
  outcome = no_tree buffer_number 0;
  comes = unlent A.contents A.means A.good (ap (λ R. buffers_good R (lengths_of B)) (sym (usable sheet job A).room-is) ∙ f) refl;
  answer = a;
  lent_is = refl;
}

-- ---- work memory that one struct holds

pub promise-held : {mode : Mode} {sheet : List ℕ} {B : Lent} {r : Answer} {branches occupied repeaters kinds blocked classes joinable known previous path best queue : List ℕ} (M : Memory) → Promise mode sheet B r (lent_with branches occupied repeaters M)
    → kinds ≡ M.kinds.now
    → blocked ≡ M.blocked.now
    → classes ≡ M.classes.now
    → joinable ≡ M.joinable.now
    → known ≡ M.known.now
    → previous ≡ M.previous.now
    → path ≡ M.path.now
    → best ≡ M.best.now
    → queue ≡ M.queue.now
    → Promise mode sheet B r (lent branches occupied repeaters kinds blocked classes joinable known previous path best queue)
promise-held {branches = branches} {occupied = occupied} {repeaters = repeaters} M P e0 e1 e2 e3 e4 e5 e6 e7 e8 = record {
  outcome = P.outcome;
  comes = P.comes;
  answer = P.answer;
  lent_is = (λ i. lent branches occupied repeaters (e0 i) (e1 i) (e2 i) (e3 i) (e4 i) (e5 i) (e6 i) (e7 i) (e8 i)) ∙ P.lent_is;
}
