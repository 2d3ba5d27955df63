-- Laws of lent memory of any length: the first V numbers are lent on, and in the end every byte is as the promise says.
use Rattle.std.specs.Prelude.{◌≡◌, refl, true, List, [], ◌++◌, ℕ, ◌+◌, ◌-◌, ◌≤◌, ◌<◌, length, take, drop, replicate, Ok, Err}
use Rattle.std.proofs.Common.{sym, ap, subst, ◌∙◌, arith, length-append, length-drop, length-take-le, ne_eqb, lt-ltb}
use Rattle.numbers.specs.Refusals.{done_number, buffer_number}
use Rattle.basics.specs.Zeros.{take_zeros, drop_zeros, zeros-long, cleared-to}
use Rattle.lent.specs.Lent.{touches, Cleared, filled, output_after, work_after}
use Rattle.room.specs.Room.{volume}
use Rattle.ground.specs.declared.Mode.{Mode}
use Rattle.job_list.specs.declared.Verdict.{Verdict}
use Rattle.list_routing.specs.declared.NetRefused.{NetRefused}
use Rattle.list_routing.specs.ListLent.{ListLent, SameSizes}
use Rattle.list_routing.specs.Walk.{cells_of, lengths_of}
use Rattle.list_routing.specs.Walking.{room_of}
use Rattle.several_nets.specs.Answers.{ListAnswer, ListOutcome, all_laid, no_list, ListComes, answer_of, number_told, lent_after}
use Rattle.several_nets.specs.FirstLaws.{past_first}
use Rattle.several_nets.specs.Entry.{settled_by, FirstGood, AnswerAsked, Holds, Answered, front_of, FrontAsked, FrontAnswered, LentAsked, LentAnswered}

high : (n : ℕ) → buffer_number < n → touches n ≡ true
high n h = rw (ne_eqb n done_number (omega arith), lt-ltb buffer_number n h)

touched : (o : ListOutcome) (F F' : ListLent) → Holds o F F' → touches (number_told (answer_of o)) ≡ true
touched (all_laid nets planned owners room) F F' H = refl
touched (no_list number net detail) F F' H = high number H

-- work memory
working : (number : ℕ) (before after : List ℕ) {final : List ℕ} → length after ≡ length before → touches number ≡ true → Cleared after final → final ≡ work_after number before
working number before after k t c = c ∙ rw t (ap (λ n. replicate n 0) k)

-- an output after a number, and after a success
refused : (number : ℕ) → buffer_number < number → (before after : List ℕ) {final : List ℕ} → length after ≡ length before → {r : ListAnswer} {why : NetRefused} → r ≡ Err why
    → final ≡ settled_by r after → final ≡ output_after number [] before
refused number h before after e {r} q s =
    let z : length after ≡ length before - 0 = omega arith in
    let t : touches number ≡ true = high number h in
    s ∙ ap (λ x. settled_by x after) q ∙ rw t (ap (λ n. replicate n 0) z)

done : (cells before after : List ℕ) {final : List ℕ} → after ≡ filled cells before → {r : ListAnswer} {nets : ℕ} → r ≡ Ok nets → final ≡ settled_by r after → final ≡ output_after done_number cells before
done cells before after f {r} q s = s ∙ ap (λ x. settled_by x after) q ∙ f

-- ---- the first V numbers

front-clear : (n : ℕ) (l : List ℕ) → n ≤ length l → l ≡ replicate (length l) 0 → take n l ≡ replicate (length (take n l)) 0
front-clear n l h e = ap (take n) e ∙ take_zeros n (length l) h ∙ ap (λ k. replicate k 0) (sym (length-take-le n l h))

pub front-asked : {list : List ℕ} {verdict : Verdict} {B : ListLent} → FrontAsked list verdict B → {n : ℕ} → n ≡ volume (room_of list) → AnswerAsked list verdict (front_of n B)
front-asked {list} {verdict} {B} A e =
    let E = A.enough in
    let C = A.clear in
    rw e record {
      judged = record { memory = A.judged.memory; memory-lengths = A.judged.memory-lengths; verdict-is = A.judged.verdict-is; past = A.judged.past };
      desk = record {
        owners = length-take-le _ B.owners E.owners;
        repeaters = length-take-le _ B.repeaters E.repeaters;
        kinds = length-take-le _ B.kinds E.kinds;
        facings = length-take-le _ B.facings E.facings;
        occupied = length-take-le _ B.occupied E.occupied;
        planned = length-take-le _ B.planned E.planned;
        before = length-take-le _ B.before E.before;
        room = length-take-le _ B.room E.room;
        blocked = length-take-le _ B.blocked E.blocked;
        classes = length-take-le _ B.classes E.classes;
        joinable = length-take-le _ B.joinable E.joinable;
        known = length-take-le _ B.known E.known;
        previous = length-take-le _ B.previous E.previous;
        path = length-take-le _ B.path E.path;
        best = length-take-le _ B.best E.best;
        queue = E.queue;
      };
      clear = record {
        branches = C.branches;
        lengths = C.lengths;
        owners = front-clear _ B.owners E.owners C.owners;
        repeaters = front-clear _ B.repeaters E.repeaters C.repeaters;
        kinds = front-clear _ B.kinds E.kinds C.kinds;
        facings = front-clear _ B.facings E.facings C.facings;
        before = front-clear _ B.before E.before C.before;
        known = front-clear _ B.known E.known C.known;
      };
    }

pub front-good : {list : List ℕ} {verdict : Verdict} {B : ListLent} → FrontAsked list verdict B → FirstGood list
front-good {list} A = (past_first A.judged.memory list (rw A.judged.verdict-is at A.judged.past)).0

pub front-answered : {mode : Mode} {list : List ℕ} {verdict : Verdict} {B : ListLent} → FrontAsked list verdict B → {n : ℕ} → n ≡ volume (room_of list) → {r : ListAnswer} {front B' : ListLent}
    → Answered mode list verdict (front_of n B) r front → B'.branches ≡ front.branches → B'.lengths ≡ front.lengths → B'.owners ≡ front.owners ++ drop n B.owners
    → B'.repeaters ≡ front.repeaters ++ drop n B.repeaters → B'.kinds ≡ front.kinds ++ drop n B.kinds → B'.facings ≡ front.facings ++ drop n B.facings
    → FrontAnswered mode list verdict B r B'
front-answered {mode} {list} {verdict} {B} A {n} e {r} {front} a b l o p k f = record {
  front = front;
  answered = subst (λ m. Answered mode list verdict (front_of m B) r front) e a;
  branches = b;
  lengths = l;
  owners = o ∙ ap (λ m. front.owners ++ drop m B.owners) e;
  repeaters = p ∙ ap (λ m. front.repeaters ++ drop m B.repeaters) e;
  kinds = k ∙ ap (λ m. front.kinds ++ drop m B.kinds) e;
  facings = f ∙ ap (λ m. front.facings ++ drop m B.facings) e;
}

-- ---- cleared first

module _ {list : List ℕ} {verdict : Verdict} {B : ListLent} (A : LentAsked list verdict B) {branches lengths owners repeaters kinds facings before known : List ℕ}
    (c-branches : Cleared B.branches branches) (c-lengths : Cleared B.lengths lengths) (c-owners : Cleared B.owners owners) (c-repeaters : Cleared B.repeaters repeaters) (c-kinds : Cleared B.kinds kinds) (c-facings : Cleared B.facings facings) (c-before : Cleared B.before before) (c-known : Cleared B.known known) where
  abbrev pub cleared : ListLent
  cleared = record {
    branches = branches;
    lengths = lengths;
    owners = owners;
    repeaters = repeaters;
    kinds = kinds;
    facings = facings;
    occupied = B.occupied;
    planned = B.planned;
    before = before;
    room = B.room;
    blocked = B.blocked;
    classes = B.classes;
    joinable = B.joinable;
    known = known;
    previous = B.previous;
    path = B.path;
    best = B.best;
    queue = B.queue;
  }

  long : (l : List ℕ) {m : List ℕ} → Cleared l m → length m ≡ length l
  long l c = zeros-long {n = length l} c

  pub front-ready : FrontAsked list verdict cleared
  front-ready = record {
    judged = record { memory = A.judged.memory; memory-lengths = A.judged.memory-lengths ∙ sym (long B.lengths c-lengths); verdict-is = A.judged.verdict-is; past = A.judged.past };
    enough = record {
      owners = omega (arith, long B.owners c-owners, A.enough.owners);
      repeaters = omega (arith, long B.repeaters c-repeaters, A.enough.repeaters);
      kinds = omega (arith, long B.kinds c-kinds, A.enough.kinds);
      facings = omega (arith, long B.facings c-facings, A.enough.facings);
      occupied = A.enough.occupied;
      planned = A.enough.planned;
      before = omega (arith, long B.before c-before, A.enough.before);
      room = A.enough.room;
      blocked = A.enough.blocked;
      classes = A.enough.classes;
      joinable = A.enough.joinable;
      known = omega (arith, long B.known c-known, A.enough.known);
      previous = A.enough.previous;
      path = A.enough.path;
      best = A.enough.best;
      queue = A.enough.queue;
    };
    clear = record {
      branches = cleared-to (sym (long B.branches c-branches)) c-branches;
      lengths = cleared-to (sym (long B.lengths c-lengths)) c-lengths;
      owners = cleared-to (sym (long B.owners c-owners)) c-owners;
      repeaters = cleared-to (sym (long B.repeaters c-repeaters)) c-repeaters;
      kinds = cleared-to (sym (long B.kinds c-kinds)) c-kinds;
      facings = cleared-to (sym (long B.facings c-facings)) c-facings;
      before = cleared-to (sym (long B.before c-before)) c-before;
      known = cleared-to (sym (long B.known c-known)) c-known;
    };
  }

  -- ---- and in the end

  module _ {mode : Mode} {r : ListAnswer} {B₁ : ListLent} (F : FrontAnswered mode list verdict cleared r B₁) (same : SameSizes cleared B₁) where
    abbrev o : ListOutcome
    o = F.answered.outcome

    -- an output in front of a cleared buffer
    behind : (part before : List ℕ) {zeros after : List ℕ} → Cleared before zeros → volume (room_of list) ≤ length before → after ≡ part ++ drop (volume (room_of list)) zeros
        → length after ≡ length zeros → after ≡ filled part before
    behind part before {zeros} c h a k =
        let n = volume (room_of list) in
        let whole : length part + length (drop n zeros) ≡ length zeros = sym (length-append part (drop n zeros)) ∙ ap length (sym a) ∙ k in
        let m : length part ≡ n = omega (arith, whole, length-drop n zeros, zeros-long {n = length before} c, h) in
        a ∙ ap (λ l. part ++ l) (ap (drop n) c ∙ drop_zeros n (length before) ∙ ap (λ x. replicate (length before - x) 0) (sym m))

    module _ {branches' lengths' owners' repeaters' kinds' facings' occupied' planned' before' room' blocked' classes' joinable' known' previous' path' best' queue' : List ℕ}
        (s-branches : branches' ≡ settled_by r B₁.branches) (s-lengths : lengths' ≡ settled_by r B₁.lengths) (s-owners : owners' ≡ settled_by r B₁.owners) (s-repeaters : repeaters' ≡ settled_by r B₁.repeaters) (s-kinds : kinds' ≡ settled_by r B₁.kinds) (s-facings : facings' ≡ settled_by r B₁.facings)
        (w-occupied : Cleared B₁.occupied occupied') (w-planned : Cleared B₁.planned planned') (w-before : Cleared B₁.before before') (w-room : Cleared B₁.room room') (w-blocked : Cleared B₁.blocked blocked') (w-classes : Cleared B₁.classes classes') (w-joinable : Cleared B₁.joinable joinable') (w_known : Cleared B₁.known known') (w-previous : Cleared B₁.previous previous') (w-path : Cleared B₁.path path') (w-best : Cleared B₁.best best') (w-queue : Cleared B₁.queue queue') where
      abbrev final : ListLent
      final = record {
        branches = branches';
        lengths = lengths';
        owners = owners';
        repeaters = repeaters';
        kinds = kinds';
        facings = facings';
        occupied = occupied';
        planned = planned';
        before = before';
        room = room';
        blocked = blocked';
        classes = classes';
        joinable = joinable';
        known = known';
        previous = previous';
        path = path';
        best = best';
        queue = queue';
      }

      lengths-same : (l : List ℕ) {m : List ℕ} → Cleared l m → {n : ℕ} → n ≡ length m → n ≡ length l
      lengths-same l c e = e ∙ long l c

      settled : (x : ListOutcome) → r ≡ answer_of x → touches (number_told (answer_of x)) ≡ true → Holds x (front_of (volume (room_of list)) cleared) F.front → (final ≡ lent_after x B)
      settled (all_laid nets planned owners room) n t H = λ i. record {
        branches = done (cells_of nets) B.branches B₁.branches (F.branches ∙ H.0 ∙ ap (λ k. cells_of nets ++ replicate (k - length (cells_of nets)) 0) (long B.branches c-branches)) n s-branches i;
        lengths = done (lengths_of nets) B.lengths B₁.lengths (F.lengths ∙ H.1 ∙ ap (λ k. lengths_of nets ++ replicate (k - length (lengths_of nets)) 0) (long B.lengths c-lengths)) n s-lengths i;
        owners = done owners B.owners B₁.owners (behind owners B.owners c-owners A.enough.owners (F.owners ∙ ap (λ l. l ++ drop (volume (room_of list)) cleared.owners) H.2) same.owners) n s-owners i;
        repeaters = done planned B.repeaters B₁.repeaters (behind planned B.repeaters c-repeaters A.enough.repeaters (F.repeaters ∙ ap (λ l. l ++ drop (volume (room_of list)) cleared.repeaters) H.3) same.repeaters) n s-repeaters i;
        kinds = done room.kinds B.kinds B₁.kinds (behind room.kinds B.kinds c-kinds A.enough.kinds (F.kinds ∙ ap (λ l. l ++ drop (volume (room_of list)) cleared.kinds) H.4) same.kinds) n s-kinds i;
        facings = done room.facings B.facings B₁.facings (behind room.facings B.facings c-facings A.enough.facings (F.facings ∙ ap (λ l. l ++ drop (volume (room_of list)) cleared.facings) H.5) same.facings) n s-facings i;
        occupied = working done_number B.occupied B₁.occupied same.occupied t w-occupied i;
        planned = working done_number B.planned B₁.planned same.planned t w-planned i;
        before = working done_number B.before B₁.before (lengths-same B.before c-before same.before) t w-before i;
        room = working done_number B.room B₁.room same.room t w-room i;
        blocked = working done_number B.blocked B₁.blocked same.blocked t w-blocked i;
        classes = working done_number B.classes B₁.classes same.classes t w-classes i;
        joinable = working done_number B.joinable B₁.joinable same.joinable t w-joinable i;
        known = working done_number B.known B₁.known (lengths-same B.known c-known same.known) t w_known i;
        previous = working done_number B.previous B₁.previous same.previous t w-previous i;
        path = working done_number B.path B₁.path same.path t w-path i;
        best = working done_number B.best B₁.best same.best t w-best i;
        queue = working done_number B.queue B₁.queue same.queue t w-queue i;
      }
      settled (no_list number net detail) n t H = λ i. record {
        branches = refused number H B.branches B₁.branches (lengths-same B.branches c-branches same.branches) n s-branches i;
        lengths = refused number H B.lengths B₁.lengths (lengths-same B.lengths c-lengths same.lengths) n s-lengths i;
        owners = refused number H B.owners B₁.owners (lengths-same B.owners c-owners same.owners) n s-owners i;
        repeaters = refused number H B.repeaters B₁.repeaters (lengths-same B.repeaters c-repeaters same.repeaters) n s-repeaters i;
        kinds = refused number H B.kinds B₁.kinds (lengths-same B.kinds c-kinds same.kinds) n s-kinds i;
        facings = refused number H B.facings B₁.facings (lengths-same B.facings c-facings same.facings) n s-facings i;
        occupied = working number B.occupied B₁.occupied same.occupied t w-occupied i;
        planned = working number B.planned B₁.planned same.planned t w-planned i;
        before = working number B.before B₁.before (lengths-same B.before c-before same.before) t w-before i;
        room = working number B.room B₁.room same.room t w-room i;
        blocked = working number B.blocked B₁.blocked same.blocked t w-blocked i;
        classes = working number B.classes B₁.classes same.classes t w-classes i;
        joinable = working number B.joinable B₁.joinable same.joinable t w-joinable i;
        known = working number B.known B₁.known (lengths-same B.known c-known same.known) t w_known i;
        previous = working number B.previous B₁.previous same.previous t w-previous i;
        path = working number B.path B₁.path same.path t w-path i;
        best = working number B.best B₁.best same.best t w-best i;
        queue = working number B.queue B₁.queue same.queue t w-queue i;
      }

      pub lent-answered : LentAnswered mode list verdict B r final
      lent-answered = record {
        outcome = o;
        comes = subst (λ k. ListComes mode list verdict k (length B.queue) o) (long B.branches c-branches) F.answered.comes;
        answer = F.answered.answer;
        lent_is = settled o F.answered.answer (touched o _ _ F.answered.holds) F.answered.holds;
      }
