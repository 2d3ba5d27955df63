-- Laws of the entry: lent memory that suffices, and what is lent on.
use Rattle.std.specs.Prelude.{◌≡◌, Ok, Err, ◌↔◌, refl, Bool, true, false, ◌&&◌, List, [], ◌∷◌, ℕ, zero, suc, ◌≤◌, ◌<◌, leb, length, take, replicate, IsTrue, slice_index, EachIndex}
use Rattle.std.proofs.Common.{sym, ap, ◌∙◌, arith, inl, inr, length-take-le, le-leb, leb-true}
use Rattle.basics.specs.Tests.{ask, never, and_left, and_right}
use Rattle.basics.specs.Lists.{In, every, every_in}
use Rattle.basics.specs.Zeros.{take_zeros}
use Rattle.room.specs.declared.Room.{Room}
use Rattle.room.specs.Room.{volume}
use Rattle.routing_resources.specs.Marks.{no_marks}
use Rattle.ground.specs.declared.Mode.{Mode}
use Rattle.job_sheet.specs.declared.Job.{Job}
use Rattle.job_sheet.specs.Sheet.{Contents}
use Rattle.outset.specs.SetOut.{Outset}
use Rattle.room_search.specs.Routing.{places_in}
use Rattle.net_tree.specs.declared.Lengths.{Lengths}
use Rattle.net_tree.specs.declared.Tree.{Tree}
use Rattle.net_tree.specs.declared.Refused.{Refused}
use Rattle.net_tree.specs.Answers.{Answer, Lent, lent, lengths_of, buffers_good, job_outcome}
use Rattle.net_tree.specs.Entry.{Routable, JobRouted, Lendable, OutputsClear}

-- an answer is one tree, or one refusal
pub one-tree : {r : Answer} {t u : Tree} → r ≡ Ok t → r ≡ Ok u → t ≡ u
one-tree p q = let e = sym p ∙ q in cc

pub one-refusal : {r : Answer} {e f : Refused} → r ≡ Err e → r ≡ Err f → e ≡ f
one-refusal p q = let e = sym p ∙ q in cc

-- what number 6 does not refuse
pub record LongEnough (n : ℕ) (L : Lengths) : Type 0 where
  pub occupied-enough : n ≤ L.occupied
  pub repeaters-enough : n ≤ L.repeaters
  pub kinds-enough : n ≤ L.kinds
  pub blocked-enough : n ≤ L.blocked
  pub classes-enough : n ≤ L.classes
  pub joinable-enough : n ≤ L.joinable
  pub known-enough : n ≤ L.known
  pub previous-enough : n ≤ L.previous
  pub path-enough : n ≤ L.path
  pub best-enough : n ≤ L.best
  pub places-some : 0 < places_in L.queue

-- the buffers that hold an entry a cell
abbrev long_buffers : Lengths → List ℕ
long_buffers L = L.occupied ∷ L.repeaters ∷ L.kinds ∷ L.blocked ∷ L.classes ∷ L.joinable ∷ L.known ∷ L.previous ∷ L.path ∷ L.best ∷ []

-- by place: each number is at least n
long_every : (n : ℕ) (xs : List ℕ) → EachIndex xs (λ k. n ≤ slice_index xs k) → every (leb n) xs ≡ true
long_every n [] f = refl
long_every n (x ∷ xs) f = rw (le-leb n x (f 0 (omega arith)), long_every n xs (λ i h. f (suc i) (omega arith)))

every_long : (n : ℕ) (xs : List ℕ) → every (leb n) xs ≡ true → EachIndex xs (λ k. n ≤ slice_index xs k)
every_long n [] e i h = absurd (omega arith)
every_long n (x ∷ xs) e zero h = leb-true n x (and_left (leb n x) (every (leb n) xs) e)
every_long n (x ∷ xs) e (suc i) h = every_long n xs (and_right (leb n x) (every (leb n) xs) e) i (omega arith)

every-told : (n : ℕ) (xs : List ℕ) (b : Bool) → IsTrue b ↔ EachIndex xs (λ k. n ≤ slice_index xs k) → b ≡ every (leb n) xs
every-told n xs true f = sym (long_every n xs (f.0 refl))
every-told n xs false f = ask (every (leb n) xs) (λ t. never (cc (f.1 (every_long n xs t)))) (λ e. sym e)

pub buffers-told : (R : Room) (L : Lengths) {n : ℕ} → n ≡ volume R → {b : Bool}
    → IsTrue b ↔ EachIndex (long_buffers L) (λ k. n ≤ slice_index (long_buffers L) k) → (b && leb 1 (places_in L.queue)) ≡ buffers_good R L
unfolding buffers_good
buffers-told R L e {b} f = ap (λ t. t && leb 1 (places_in L.queue)) (every-told _ (long_buffers L) b f ∙ ap (λ n. every (leb n) (long_buffers L)) e)

-- every buffer in the list fits
all_fit : (n : ℕ) (l : List ℕ) → every (leb n) l ≡ true → (a : ℕ) → In a l → n ≤ a
all_fit n l e a i = leb-true n a (every_in (leb n) l e a i)

pub long-enough : (R : Room) (L : Lengths) → buffers_good R L ≡ true → LongEnough (volume R) L
unfolding buffers_good
long-enough R L e =
    let all = every (leb (volume R)) (long_buffers L) in
    let fit = all_fit (volume R) (long_buffers L) (and_left all (leb 1 (places_in L.queue)) e) in
    record {
      occupied-enough = fit _ (inl refl);
      repeaters-enough = fit _ (inr (inl refl));
      kinds-enough = fit _ (inr (inr (inl refl)));
      blocked-enough = fit _ (inr (inr (inr (inl refl))));
      classes-enough = fit _ (inr (inr (inr (inr (inl refl)))));
      joinable-enough = fit _ (inr (inr (inr (inr (inr (inl refl))))));
      known-enough = fit _ (inr (inr (inr (inr (inr (inr (inl refl)))))));
      previous-enough = fit _ (inr (inr (inr (inr (inr (inr (inr (inl refl))))))));
      path-enough = fit _ (inr (inr (inr (inr (inr (inr (inr (inr (inl refl)))))))));
      best-enough = fit _ (inr (inr (inr (inr (inr (inr (inr (inr (inr (inl refl))))))))));
      places-some = leb-true 1 (places_in L.queue) (and_right all (leb 1 (places_in L.queue)) e);
    }

module _ {sheet : List ℕ} {job : Job} {B : Lent} (A : Lendable sheet job B) where
  pub enough : LongEnough (volume job.room) (lengths_of B)
  enough = long-enough job.room (lengths_of B) A.buffers

  -- a cleared output's front
  clear-front : {marks : List ℕ} {n : ℕ} → n ≤ length marks → marks ≡ replicate (length marks) 0 → take n marks ≡ no_marks n
  clear-front {marks = marks} {n = n} h e = ap (take n) e ∙ take_zeros n (length marks) h

  pub routable : OutputsClear B → {cells : ℕ} → cells ≡ volume job.room
      → Routable sheet job (lent B.branches (take cells B.occupied) (take cells B.repeaters) (take cells B.kinds) (take cells B.blocked) (take cells B.classes) (take cells B.joinable) (take cells B.known) (take cells B.previous) (take cells B.path) (take cells B.best) B.queue)
  routable C e = record {
    accepted = A.accepted;
    branches-clear = C.branches-clear;
    occupied-clear = rw e (clear-front enough.occupied-enough C.occupied-clear);
    repeaters-clear = rw e (clear-front enough.repeaters-enough C.repeaters-clear);
    kinds-long = rw e (length-take-le _ B.kinds enough.kinds-enough);
    blocked-long = rw e (length-take-le _ B.blocked enough.blocked-enough);
    classes-long = rw e (length-take-le _ B.classes enough.classes-enough);
    joinable-long = rw e (length-take-le _ B.joinable enough.joinable-enough);
    known-long = rw e (length-take-le _ B.known enough.known-enough);
    previous-long = rw e (length-take-le _ B.previous enough.previous-enough);
    path-long = rw e (length-take-le _ B.path enough.path-enough);
    best-long = rw e (length-take-le _ B.best enough.best-enough);
    places-some = enough.places-some;
  }

-- only the branch buffer's and the queue's length count for what comes of a job
same_outcome : (mode : Mode) (J : Contents) (L L' : Lengths) (O : Outset) (kinds blocked : List ℕ) → L.branches ≡ L'.branches → L.queue ≡ L'.queue → job_outcome mode J L O kinds blocked ≡ job_outcome mode J L' O kinds blocked
unfolding job_outcome
same_outcome mode J L L' O kinds blocked b q = rw (b, q) refl

pub lent-on : {mode : Mode} {sheet : List ℕ} {B B' : Lent} → B'.branches ≡ B.branches → B'.queue ≡ B.queue → {r : Answer} {branches occupied repeaters : List ℕ}
    → JobRouted mode sheet B r branches occupied repeaters → JobRouted mode sheet B' r branches occupied repeaters
lent-on {mode = mode} {B = B} {B' = B'} b q R = record {
  outset = R.outset;
  kinds = R.kinds;
  nodes = R.nodes;
  blocked = R.blocked;
  outcome = R.outcome;
  is_set = R.is_set;
  comes = λ J m. R.comes J m ∙ same_outcome mode J (lengths_of B) (lengths_of B') R.outset R.kinds R.blocked (ap length (sym b)) (ap length (sym q));
  answer = R.answer;
  outputs = rw b R.outputs;
}
