-- Laws of the telling: what the numbers hold, and that a plan that isn't well told touches nothing.
use Rattle.std.specs.Prelude.{Result, Ok, Err, ◌≡◌, Bool, true, false, List, [], ◌∷◌, ◌++◌, ℕ, ◌+◌, ◌-◌, ◌*◌, ◌/◌, ◌≤◌, ◌<◌, eqb, get_or, drop, set, min}
use Rattle.std.proofs.Math.Path.{refl, ap}
use Rattle.std.proofs.Common.{sym, subst, ◌∙◌, append-nil, add-one, arith, take-suc, length-take-le}
use Rattle.std.proofs.Math.Nat.{mul-div-le, min_comm}
use Rattle.std.proofs.Math.ListN.{length, take, replicate}
use Rattle.std.proofs.Math.Seq.{take_all, take-length, drop-length}
use borrow.Author.Tests.{eq-eqb, ne_eqb, leb-true, lt-leb}
use Rattle.numbers.specs.Refusals.{done_number}
use Rattle.basics.specs.Tests.{either, ask, ask_less, and_right, never}
use Rattle.basics.specs.Padding.{padded_next}
use Rattle.lent.specs.Lent.{touches, filled, output_after}
use Rattle.room.specs.declared.Room.{Room}
use Rattle.room.specs.Room.{volume}
use Rattle.room.specs.RoomLaws.{cell_in}
use Rattle.job_sheet.specs.declared.Endpoint.{Endpoint}
use Rattle.job_sheet.specs.declared.Sinks.{Sinks}
use Rattle.job_sheet.specs.declared.Judgement.{Judgement}
use Rattle.job_sheet.specs.declared.Judgement.TheVariants as judgement
use Rattle.job_sheet.specs.Sheet.{max_sinks, no_endpoint, is_good, number_of}
use Rattle.sheet_writer.specs.Writer.{whole}
use Rattle.sheet_writer.specs.Export.{end_numbers, end_from, sink_numbers, sinks_from}
use Rattle.branches.specs.declared.BranchLengths.{BranchLengths}
use Rattle.repeater_plan.specs.declared.Refused.{Refused}
use Rattle.repeater_plan.specs.Plan.{Net, net, judged, Lent, lent, lengths_of, lent_good, counts_good, Outcome, planned, unplanned, outcome_of, answer_of, number_for, lent_after, Promise}
use Rattle.repeater_plan.specs.Judging.{shorter}
use Rattle.repeater_plan.specs.JudgeLaws.{shorter-min, shorter-most, shorter_take}
use Rattle.repeater_plan.specs.EntryLaws.{no_fault}
use Rattle.repeater_reply.specs.Reply.{source_told, sinks_told, lengths_told, value_count, well_told, lent_told, told_outcome, values_for, PlanTold}

-- ---- what the contracts cite

abbrev pub planned_number : Result ℕ Refused → ℕ
planned_number (Ok count) = done_number
planned_number (Err why) = why.number

abbrev pub planned_values : Result ℕ Refused → List ℕ
planned_values (Ok count) = 0 ∷ count ∷ []
planned_values (Err why) = why.detail ∷ 0 ∷ []

-- values enough for an answer that touches them
abbrev pub Fit : Result ℕ Refused → List ℕ → Type 0
Fit answer values = touches (planned_number answer) ≡ true → value_count ≤ length values

-- ---- the source, the sinks, the lengths

module _ (l : List ℕ) where
  pub source_is : length l ≡ end_numbers → {e : Endpoint} → e ≡ end_from l → e ≡ source_told l
  unfolding source_told
  source_is h q = rw (eq-eqb _ _ h) q

  pub source-none : (length l ≡ end_numbers → ⊥) → {e : Endpoint} → e ≡ no_endpoint → e ≡ source_told l
  unfolding source_told
  source-none h q = rw (ne_eqb _ _ h) q

  -- the first sixteen records
  module _ {most : ℕ} (least : most ≡ min (length l) (sink_numbers * max_sinks)) where
    m : most ≡ shorter (sink_numbers * max_sinks) (length l)
    m = least ∙ min_comm (length l) (sink_numbers * max_sinks) ∙ shorter-min (sink_numbers * max_sinks) (length l)

    front : take most l ≡ take (sink_numbers * max_sinks) l
    front = rw m (shorter_take (sink_numbers * max_sinks) l)

    pub most-there : most ≤ length l
    most-there = omega (arith, m, (shorter-most (sink_numbers * max_sinks) (length l)).1)

    pub most-few : length (take most l) / sink_numbers ≤ max_sinks
    most-few =
        let n = length-take-le most l most-there in
        omega (arith, n, m, (shorter-most (sink_numbers * max_sinks) (length l)).0, mul-div-le (length (take most l)) sink_numbers)

    pub sinks-are : {held : Sinks} → held ≡ sinks_from (take most l) → ◌≡◌ {A = Sinks} (record { count = length l / sink_numbers; ends = held.ends }) (sinks_told l)
    unfolding sinks_told
    sinks-are h = let e = ap (λ k. k.ends) (h ∙ ap sinks_from front) in λ i. record { count = length l / sink_numbers; ends = e i }

-- what is gathered so far stands before zeros
pub record LengthsGathered (l each : List ℕ) (k : ℕ) : Type 0 where
  pub same : each ≡ take k l ++ replicate (max_sinks - k) 0
  pub so_far : k ≤ max_sinks
  pub there : k ≤ length l

module _ {l : List ℕ} where
  pub lengths_none : LengthsGathered l (replicate max_sinks 0) 0
  lengths_none = record { same = refl; so_far = omega arith; there = omega arith }

  module _ {each : List ℕ} {k held : ℕ} (I : LengthsGathered l each k) (m : held ≡ min (length l) max_sinks) where
    pub lengths-next : k < held → {x : ℕ} → x ≡ get_or l k 0 → LengthsGathered l (set each k x) (k + 1)
    lengths-next h {x} e =
        let few : k < max_sinks = omega (arith, h, m) in
        let some : k < length l = omega (arith, h, m) in
        let one_more : take k l ++ (x ∷ []) ≡ take (k + 1) l = rw (e, add-one k) (sym (take-suc l k 0 some)) in
        record {
          same =
              ap (λ r. set r k x) I.same
              ∙ padded_next (take k l) max_sinks k 0 (length-take-le k l I.there) few x
              ∙ ap (λ r. r ++ replicate (max_sinks - (k + 1)) 0) one_more;
          so_far = omega (arith, few);
          there = omega (arith, some);
        }

    pub lengths-all : held ≤ k → ◌≡◌ {A = BranchLengths} (record { count = length l; each = each }) (lengths_told l)
    unfolding lengths_told
    lengths-all h = let e = I.same ∙ whole-list in λ i. record { count = length l; each = e i }
      where
        whole-list : take k l ++ replicate (max_sinks - k) 0 ≡ take max_sinks l ++ replicate (max_sinks - length l) 0
        whole-list =
            ask_less max_sinks (length l)
            (λ q.
            let z : k ≡ max_sinks = omega (arith, h, m, q, I.so_far) in
            let n : max_sinks - length l ≡ max_sinks - max_sinks = omega (arith, q) in
            rw (z, n) refl)
            (λ q.
            let z : k ≡ length l = omega (arith, h, m, q, I.there) in
            rw (z, take-length l, take_all max_sinks l q) refl)

-- ---- what isn't well told

module _ (source sinks values : ℕ) where
  pub values-enough : well_told source sinks values ≡ true → value_count ≤ values
  unfolding well_told
  values-enough t = leb-true _ _ (and_right (whole sink_numbers sinks) _ (and_right (eqb source end_numbers) _ t))

small-number : (j : Judgement) → is_good j ≡ false → touches (number_of j) ≡ false
small-number judgement.Good e = never (cc)
small-number judgement.Sheet e = refl
small-number judgement.Sides e = refl
small-number judgement.Config e = refl
small-number judgement.Position e = refl
small-number judgement.Code e = refl

module _ (N : Net) (B : Lent) where
  no_marks : is_good (judged N) ≡ true → lent_good N.room (lengths_of (lent_told false B)) ≡ false
  unfolding lent_good
  no_marks g = rw (lt-leb (volume N.room) 0 (omega (arith, cell_in N.room N.source.at (no_fault N g).source-within))) refl

  -- where the output is not lent on, no number touches anything
  pub untouched : touches (number_for (told_outcome N false B)) ≡ false
  unfolding outcome_of
  untouched =
      ask (is_good (judged N))
      (λ g. ask (counts_good N) (λ c. rw (g, c, no_marks g) refl) (λ f. rw (g, f) refl))
      (λ f. rw f (small-number (judged N) f))

-- a refusal that touches, and one that doesn't
pub refusal-written : (number : ℕ) (cells values : List ℕ) {t : Bool} → t ≡ touches number → t ≡ true → {values' : List ℕ} → values' ≡ filled cells values
    → values' ≡ output_after number cells values
refusal-written number cells values e q p = rw (sym e ∙ q) p

pub refusal-kept : (number : ℕ) (cells values : List ℕ) {t : Bool} → t ≡ touches number → t ≡ false → values ≡ output_after number cells values
refusal-kept number cells values e q = rw (sym e ∙ q) refl

-- ---- the answer as number and values

answer-number : (o : Outcome) → planned_number (answer_of o) ≡ number_for o
answer-number (planned marks) = refl
answer-number (unplanned number detail) = refl

answer-values : (o : Outcome) → planned_values (answer_of o) ≡ values_for o
answer-values (planned marks) = refl
answer-values (unplanned number detail) = refl

kept-all : (o : Outcome) → touches (number_for o) ≡ false → (B : Lent) → lent_after o B ≡ B
kept-all o f B = rw f refl

pub marks-inside : (well : Bool) (l : List ℕ) {marks : ℕ} → marks ≡ either well (length l) 0 → marks ≤ length l
marks-inside true l m = omega (arith, m)
marks-inside false l m = omega (arith, m)

-- what is lent on: all of the output, or none of it
pub marks-lent : (well : Bool) (B : Lent) {marks : ℕ} → marks ≡ either well (length B.repeaters) 0
    → lent (take marks B.repeaters) B.forbidden B.links B.parents B.line ≡ lent_told well B
marks-lent true B m = rw (m, take-length B.repeaters) refl
marks-lent false B m = rw m refl

lent-kept : (well : Bool) (N : Net) (B B₁ : Lent) → B₁ ≡ lent_after (told_outcome N well B) (lent_told well B) → {marks : ℕ} → marks ≡ either well (length B.repeaters) 0
    → lent (B₁.repeaters ++ drop marks B.repeaters) B₁.forbidden B₁.links B₁.parents B₁.line ≡ lent_after (told_outcome N well B) B
lent-kept true N B B₁ l m = rw (m, drop-length B.repeaters, append-nil B₁.repeaters) l
lent-kept false N B B₁ l m =
    let q : B₁ ≡ lent_told false B = l ∙ kept-all (told_outcome N false B) (untouched N B) (lent_told false B) in
    rw (m, q) (sym (kept-all (told_outcome N false B) (untouched N B) B))

-- what is handed on is what the numbers tell
pub told_promise : (R : Room) (cells : List ℕ) (well : Bool) (B : Lent) (source sinks lengths : List ℕ) {run run' : ℕ} → run' ≡ run → {e : Endpoint} → e ≡ source_told source
    → {k : Sinks} → k ≡ sinks_told sinks → {L : BranchLengths} → L ≡ lengths_told lengths
    → {marks : ℕ} → marks ≡ either well (length B.repeaters) 0 → {r : Result ℕ Refused} {B₁ : Lent}
    → Promise (net R run' e k cells L) (lent (take marks B.repeaters) B.forbidden B.links B.parents B.line) r B₁
    → Promise (net R run (source_told source) (sinks_told sinks) cells (lengths_told lengths)) (lent_told well B) r B₁
told_promise R cells well B source sinks lengths {run} a b c d {marks} m {r} {B₁} P =
    subst (λ x. Promise (net R run (source_told source) (sinks_told sinks) cells (lengths_told lengths)) x r B₁) (marks-lent well B m)
    (subst (λ (x : Net). Promise x (lent (take marks B.repeaters) B.forbidden B.links B.parents B.line) r B₁) (λ i. net R (a i) (b i) (c i) cells (d i)) P)

module _ (N : Net) (well : Bool) (B : Lent) {r : Result ℕ Refused} {B₁ : Lent} (P : Promise N (lent_told well B) r B₁) where
  number_is : planned_number r ≡ number_for (told_outcome N well B)
  number_is = ap planned_number P.answer ∙ answer-number (told_outcome N well B)

  pub answer-fits : (values : List ℕ) → (well ≡ true → value_count ≤ length values) → Fit r values
  answer-fits values enough t =
      ask well enough
      (λ f. let z : touches (number_for (told_outcome N false B)) ≡ true = rw f at (ap touches (sym number_is) ∙ t) in never (cc (sym (untouched N B) ∙ z)))

  pub plan_told : {values values' : List ℕ} {number : ℕ} → number ≡ planned_number r → values' ≡ output_after (planned_number r) (planned_values r) values
      → {marks : ℕ} → marks ≡ either well (length B.repeaters) 0
      → PlanTold N well B values number (lent (B₁.repeaters ++ drop marks B.repeaters) B₁.forbidden B₁.links B₁.parents B₁.line) values'
  plan_told n v m = record {
    number = n ∙ number_is;
    lent_is = lent-kept well N B B₁ P.lent_is m;
    values-are = v ∙ rw (number_is, ap planned_values P.answer ∙ answer-values (told_outcome N well B)) refl;
  }
