-- Laws of the telling: the values written, and that where too few are lent nothing is touched.
use Rattle.std.specs.Prelude.{◌≡◌, refl, Bool, true, false, List, ◌++◌, ℕ, ◌+◌, ◌-◌, ◌*◌, ◌≤◌, ◌<◌, leb, length, take, drop, replicate, Ok, Err}
use Rattle.std.proofs.Common.{sym, ap, ◌∙◌, arith, leb-true, le-leb}
use Rattle.std.proofs.lemmas.Bool.{lt-leb}
use Rattle.std.proofs.lemmas.List.{length-replicate}
use Rattle.basics.specs.Tests.{either, ask, never, and_left, and_right}
use Rattle.basics.specs.Zeros.{drop_zeros}
use Rattle.lent.specs.Lent.{touches, filled}
use Rattle.room.specs.Room.{volume}
use Rattle.ground.specs.declared.Mode.{Mode}
use Rattle.job_list.specs.declared.Verdict.{Verdict}
use Rattle.job_list.specs.Judged.{memory_good, judged_list}
use Rattle.list_routing.specs.ListLent.{ListLent}
use Rattle.list_routing.specs.Walking.{room_of}
use Rattle.several_nets.specs.Answers.{ListAnswer, memory_of, ListOutcome, ListComes, due, repeated, walked, answer_of, number_told, lent_after, Promise}
use Rattle.several_nets.specs.FirstLaws.{past_first}
use Rattle.nets_reply.specs.Reply.{value_count, values_of, well_told, lent_told, values_after, NetsTold}

-- ---- the values

-- cleared before where lent memory is touched
abbrev pub wiped_by : ℕ → List ℕ → List ℕ
wiped_by number values = either (touches number) (replicate (length values) 0) values

wiped-same : (values : List ℕ) (t : Bool) → length (either t (replicate (length values) 0) values) ≡ length values
wiped-same values true = length-replicate {A = ℕ} (length values) 0
wiped-same values false = refl

pub wiped-long : (number : ℕ) (values : List ℕ) {wiped : List ℕ} → wiped ≡ wiped_by number values → length wiped ≡ length values
wiped-long number values w = ap length w ∙ wiped-same values (touches number)

three-values : (a : ListAnswer) → length (values_of a) ≡ value_count
three-values (Ok nets) = refl
three-values (Err why) = refl

three-taken : (a : ListAnswer) → take value_count (values_of a) ≡ values_of a
three-taken (Ok nets) = refl
three-taken (Err why) = refl

pub values-three : (a : ListAnswer) {front : List ℕ} → front ≡ values_of a → length front ≡ value_count
values-three a e = ap length e ∙ three-values a

-- the three values stand before what was wiped
module _ (a : ListAnswer) (values : List ℕ) where
  told-by : (t : Bool) → values_of a ++ drop value_count (either t (replicate (length values) 0) values) ≡ either t (filled (values_of a) values) (values_of a ++ drop value_count values)
  told-by true = ap (λ l. values_of a ++ l) (drop_zeros value_count (length values) ∙ ap (λ k. replicate (length values - k) 0) (sym (three-values a)))
  told-by false = refl

  pub values-told : {number : ℕ} {wiped front : List ℕ} → number ≡ number_told a → wiped ≡ wiped_by number values → front ≡ values_of a
      → take value_count front ++ drop value_count wiped ≡ values_after true a values
  values-told {wiped = wiped} n w e =
      ap (λ l. take value_count l ++ drop value_count wiped) e
      ∙ ap (λ l. l ++ drop value_count wiped) (three-taken a)
      ∙ ap (λ l. values_of a ++ drop value_count l) (w ∙ ap (λ k. wiped_by k values) n)
      ∙ told-by (touches (number_told a))

-- ---- too few values

-- a queue without a place: nothing is touched
short-untouched : (list : List ℕ) (B : ListLent) → touches (judged_list (memory_of (lent_told false B)) list).number ≡ false
unfolding memory_good
short-untouched list B =
    let M = memory_of (lent_told false B) in
    ask (touches (judged_list M list).number)
    (λ t. let P = (past_first M list t).1 in
    let one = leb-true 1 M.places (and_left (leb 1 M.places) (leb (16 * (0 + 1)) M.lengths) (and_right (leb (volume (room_of list)) M.cells) _ P)) in absurd (omega arith))
    (λ f. f)

comes-untouched : {mode : Mode} {list : List ℕ} {verdict : Verdict} {buffer queue : ℕ} {o : ListOutcome} → ListComes mode list verdict buffer queue o → touches verdict.number ≡ false
    → touches (number_told (answer_of o)) ≡ false
comes-untouched (due a b e) t = rw e t
comes-untouched (repeated a p b e) t = let z : true ≡ false = sym (ap touches a) ∙ t in never (cc)
comes-untouched (walked a e) t = let z : true ≡ false = sym (ap touches a) ∙ t in never (cc)

-- a number that touches nothing
untouched-lent : (o : ListOutcome) → touches (number_told (answer_of o)) ≡ false → (B : ListLent) → lent_after o B ≡ B
untouched-lent o t B = rw t

-- the memory with no place of the queue lent on, back in its place
abbrev pub back_of : ListLent → ListLent → ListLent
back_of B B₁ = record {
  branches = B₁.branches;
  lengths = B₁.lengths;
  owners = B₁.owners;
  repeaters = B₁.repeaters;
  kinds = B₁.kinds;
  facings = B₁.facings;
  occupied = B₁.occupied;
  planned = B₁.planned;
  before = B₁.before;
  room = B₁.room;
  blocked = B₁.blocked;
  classes = B₁.classes;
  joinable = B₁.joinable;
  known = B₁.known;
  previous = B₁.previous;
  path = B₁.path;
  best = B₁.best;
  queue = B₁.queue ++ drop 0 B.queue;
}

pub told-short : {mode : Mode} {list : List ℕ} (B : ListLent) (values : List ℕ) → length values < value_count → {a : ListAnswer} {B₁ : ListLent} → Promise mode list (lent_told false B) a B₁
    → NetsTold mode list B values (number_told a) (back_of B B₁) values
told-short {mode} {list} B values h {a} P =
    let w : well_told values ≡ false = lt-leb value_count (length values) h in
    let t = comes-untouched P.comes (short-untouched list B) in
    let same = P.lent_is ∙ untouched-lent P.outcome t (lent_told false B) in
    record {
      outcome = P.outcome;
      comes = rw w P.comes;
      number = ap number_told P.answer;
      lent_is = ap (back_of B) same ∙ sym (untouched-lent P.outcome t B);
      values-are = rw w;
    }

pub told-well : {mode : Mode} {list : List ℕ} (B : ListLent) (values : List ℕ) → value_count ≤ length values → {a : ListAnswer} {B' : ListLent} → Promise mode list B a B'
    → {values' : List ℕ} → values' ≡ values_after true a values → NetsTold mode list B values (number_told a) B' values'
told-well {mode} {list} B values h {a} P v =
    let w : well_told values ≡ true = le-leb value_count (length values) h in
    record {
      outcome = P.outcome;
      comes = rw w P.comes;
      number = ap number_told P.answer;
      lent_is = P.lent_is;
      values-are = v ∙ rw w (ap (λ x. values_after true x values) P.answer);
    }
