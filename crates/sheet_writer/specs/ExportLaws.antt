-- The numbers of a writing, and the promise of the exported writer by its cases.
use Rattle.std.specs.Prelude as results
use Rattle.std.specs.Prelude.{◌≡◌, Ok, Err, Bool, false, not, List, [], ◌∷◌, ◌++◌, ℕ, zero, suc, ◌+◌, ◌-◌, ◌*◌, ◌/◌, ◌≤◌, ◌<◌, leb, eqb, length, set, drop, take, replicate}
use Rattle.std.proofs.Math.Path.{refl}
use Rattle.std.proofs.Common.{sym, ap, ◌∙◌, append-nil, add-one, arith, take-append-drop, length-take-le, leb-true, le-ltb, eqb-true, ne_eqb}
use Rattle.std.proofs.lemmas.Bool.{eqb-false}
use Rattle.std.proofs.Math.Bool.{true}
use Rattle.std.proofs.Math.Seq.{take-length, drop-length}
use Rattle.numbers.specs.declared.Refusal.{Refusal}
use Rattle.numbers.specs.Refusals.{done_number, buffer_number, sheet_number, number_of as refusal_number}
use Rattle.basics.specs.Tests.{either, ask, test-passes, passed}
use Rattle.basics.specs.Padding.{padded_next}
use Rattle.basics.specs.Promises.{Determines}
use Rattle.lent.specs.Lent.{filled, output_after}
use Rattle.job_sheet.specs.declared.Sink.{Sink}
use Rattle.job_sheet.specs.declared.Sinks.{Sinks}
use Rattle.job_sheet.specs.declared.Judgement.{Judgement}
use Rattle.job_sheet.specs.declared.Judgement.TheVariants.{Good, Sheet, Sides, Config, Position, Code}
use Rattle.job_sheet.specs.Sheet.{max_sinks, bytes_by, is_good, number_of, no_sink}
use Rattle.job_sheet.specs.Places.{many}
use Rattle.job_sheet.specs.RecordLaws.{many-long, many_snoc}
use Rattle.sheet_writer.specs.Writer.{Parts, contents_of, written, judged_parts, number_due, refusal_of, answer_of, Promise}
use Rattle.sheet_writer.specs.PromiseLaws.{due-six}
use Rattle.sheet_writer.specs.Theorems.{due-judged}
use Rattle.sheet_writer.specs.Export.{end_numbers, sink_numbers, sink_from, sinks_from, ends_good, value_count, told_number, Told}

-- ---- a writing as numbers

abbrev pub number_told : results.Result ℕ Refusal → ℕ
number_told (Ok n) = done_number
number_told (Err why) = refusal_number why

abbrev pub values_told : results.Result ℕ Refusal → List ℕ → List ℕ
values_told (Ok n) values = filled (0 ∷ n ∷ []) values
values_told (Err why) values = values

-- a success finds place for its values
abbrev pub Fit : results.Result ℕ Refusal → List ℕ → Type 0
Fit (Ok n) values = value_count ≤ length values
Fit (Err why) values = 0 ≤ 0

-- ---- the sinks gathered one by one

pub record Gathered (l : List ℕ) (count : ℕ) (ends : List Sink) (k : ℕ) : Type 0 where
  pub same : ends ≡ many sink_from sink_numbers k l ++ replicate (max_sinks - k) no_sink
  pub so_far : k ≤ count

module _ {l : List ℕ} {count : ℕ} {ends : List Sink} {k : ℕ} (I : Gathered l count ends k) where
  pub gather_on : k < count → count ≤ max_sinks → (e : Sink) → e ≡ sink_from (drop (sink_numbers * k) l) → Gathered l count (set ends k e) (k + 1)
  gather_on h few e n =
      let p = many sink_from sink_numbers k l in
      let r : List Sink = replicate (max_sinks - (k + 1)) no_sink in
      record {
        same =
            ap (λ x. set x k e) I.same
            ∙ padded_next p max_sinks k no_sink (many-long sink_from sink_numbers k l) (omega arith) e
            ∙ ap (λ x. (p ++ (x ∷ [])) ++ r) n
            ∙ ap (λ x. x ++ r) (sym (many_snoc sink_from sink_numbers k l))
            ∙ ap (λ x. many sink_from sink_numbers x l ++ r) (sym (add-one k));
        so_far = omega arith;
      }

pub gather_done : (l : List ℕ) (ends : List Sink) (k : ℕ) → Gathered l (length l / sink_numbers) ends k → length l / sink_numbers ≤ k
    → ◌≡◌ {A = Sinks} (record { count = length l / sink_numbers; ends = ends }) (sinks_from l)
unfolding sinks_from
gather_done l ends k I h =
    let n : length (many sink_from sink_numbers (length l / sink_numbers) l) ≡ length l / sink_numbers = many-long sink_from sink_numbers (length l / sink_numbers) l in
    let e : k ≡ length l / sink_numbers = omega (arith, I.so_far) in
    let f : ends ≡ many sink_from sink_numbers (length l / sink_numbers) l ++ replicate (max_sinks - length (many sink_from sink_numbers (length l / sink_numbers) l)) no_sink = rw n (rw e at I.same) in
    let n' = sym n in
    λ i. record { count = n' i; ends = f i }

-- ---- the promise by its cases

pub ends_ill : (P : Parts) (sheet values : List ℕ) (well : Bool) → well ≡ false → Told P well sheet values sheet_number sheet values
unfolding told_number
ends_ill P sheet values well f = record { number = rw f refl; sheet-is = refl; values-are = refl }

-- every number that is due is one of 1 to 6, or none
fault_most : (v : Judgement) → number_of v ≤ buffer_number
fault_most Good = omega arith
fault_most Sheet = omega arith
fault_most Sides = omega arith
fault_most Config = omega arith
fault_most Position = omega arith
fault_most Code = omega arith

pub due-most : (P : Parts) (lent : ℕ) → number_due P lent ≤ buffer_number
unfolding number_due
due-most P lent =
    ask (is_good (judged_parts P))
    (λ t. ask (leb (length (written (contents_of P))) lent) (λ h. rw (t, h) (omega arith)) (λ h. rw (t, h) (omega arith)))
    (λ f. rw f (fault_most (judged_parts P)))

-- no sheet goes into no bytes
due-some : (P : Parts) → number_due P 0 ≡ done_number → ⊥
unfolding bytes_by
due-some P e =
    let F = due-judged P 0 e in
    let six : number_due P 0 ≡ buffer_number = due-six P 0 F (omega arith) in
    omega (arith, six, e)

kept : (d : ℕ) → d ≤ buffer_number → eqb d done_number ≡ false → (cells out : List ℕ) → output_after d cells out ≡ out
kept d h f cells out = rw (f, le-ltb buffer_number d h) refl

-- what a number stands for has that number
pub refused_number : (d : ℕ) → d ≤ buffer_number → eqb d done_number ≡ false → refusal_number (refusal_of d) ≡ d
refused_number d h f =
    ask (eqb d 1) (λ t. rw t (sym (eqb-true d 1 t)))
    (λ f₁. ask (eqb d 2) (λ t. rw (f₁, t) (sym (eqb-true d 2 t)))
    (λ f₂. ask (eqb d 3) (λ t. rw (f₁, f₂, t) (sym (eqb-true d 3 t)))
    (λ f₃. ask (eqb d 4) (λ t. rw (f₁, f₂, f₃, t) (sym (eqb-true d 4 t)))
    (λ f₄. ask (eqb d 5) (λ t. rw (f₁, f₂, f₃, f₄, t) (sym (eqb-true d 5 t)))
    (λ f₅. rw (f₁, f₂, f₃, f₄, f₅) (omega (arith, eqb-false d 0 f, eqb-false d 1 f₁, eqb-false d 2 f₂, eqb-false d 3 f₃, eqb-false d 4 f₄, eqb-false d 5 f₅)))))))

-- what an answer tells is the number, of those that can be due: no refusal has 17 or a number above 19
module _ (d n : ℕ) {w : results.Result ℕ Refusal} (is : w ≡ answer_of d n) where
  told-within : d ≤ buffer_number → number_told w ≡ d
  told-within h = ask (eqb d done_number) (λ t. let z : d ≡ 0 = eqb-true d done_number t in rw (is, z) refl) (λ f. let q : w ≡ Err (refusal_of d) = is ∙ rw f refl in ap number_told q ∙ refused_number d h f)

  told-values : d ≤ buffer_number → (values : List ℕ) → values_told w values ≡ output_after d (0 ∷ n ∷ []) values
  told-values h values =
      ask (eqb d done_number)
      (λ t. let z : d ≡ 0 = eqb-true d done_number t in rw (is, z) refl)
      (λ f. let q : w ≡ Err (refusal_of d) = is ∙ rw f refl in ap (λ x. values_told x values) q ∙ sym (kept d h f (0 ∷ n ∷ []) values))

-- so it is at each number that is due
pub told-number : (P : Parts) (lent n : ℕ) {w : results.Result ℕ Refusal} → w ≡ answer_of (number_due P lent) n → number_told w ≡ number_due P lent
told-number P lent n is = told-within (number_due P lent) n is (due-most P lent)

-- what a caller of `write_sheet` knows of a refusal: its number is the one that is due
pub refused-due : {P : Parts} {out out' : List ℕ} {why : Refusal} → Promise P out (Err why) out' → refusal_number why ≡ number_due P (length out)
refused-due {P} {out} p = told-number P (length out) (length (written (contents_of P))) p.answers

module _ (P : Parts) (sheet values : List ℕ) {well t : Bool} (e : t ≡ well) (g : not t ≡ false) {lent : ℕ} (l : lent ≡ either (leb value_count (length values)) (length sheet) 0) where
  pub lent-inside : lent ≤ length sheet
  lent-inside = ask (leb value_count (length values)) (λ h. rw (l, h) (omega arith)) (λ h. rw (l, h) (omega arith))

  number_is : told_number P well (length sheet) (length values) ≡ number_due P lent
  unfolding told_number
  number_is = rw (test-passes e g, l) refl

  module _ {w : results.Result ℕ Refusal} {part : List ℕ} (p : Promise P (take lent sheet) w part) where
    part-due : number_due P (length (take lent sheet)) ≡ number_due P lent
    part-due = ap (number_due P) (length-take-le lent sheet lent-inside)

    answer-is : w ≡ answer_of (number_due P lent) (length (written (contents_of P)))
    answer-is = p.answers ∙ ap (λ d. answer_of d (length (written (contents_of P)))) part-due

    pub told_fit : Fit w values
    told_fit =
        ask (leb value_count (length values))
        (λ h. fits w (leb-true value_count (length values) h))
        (λ h. ask (eqb (number_due P lent) done_number)
        (λ t. absurd (due-some P (ap (number_due P) (sym (l ∙ rw h refl)) ∙ eqb-true (number_due P lent) done_number t)))
        (λ f. rw (answer-is, f) (omega arith)))
      where
        fits : (w : results.Result ℕ Refusal) → value_count ≤ length values → Fit w values
        fits (Ok n) h = h
        fits (Err why) h = omega arith

    -- the part of the output that was lent, and what stands behind it
    sheet-told : part ++ drop lent sheet ≡ output_after (number_due P lent) (written (contents_of P)) sheet
    sheet-told =
        let held : part ≡ output_after (number_due P lent) (written (contents_of P)) (take lent sheet) = p.holds ∙ ap (λ d. output_after d (written (contents_of P)) (take lent sheet)) part-due in
        ask (leb value_count (length values))
        (λ h. let all : lent ≡ length sheet = l ∙ rw h refl in
        let front : take lent sheet ≡ sheet = ap (λ n. take n sheet) all ∙ take-length sheet in
        let none : drop lent sheet ≡ [] = ap (λ n. drop n sheet) all ∙ drop-length sheet in
        (λ i. held i ++ none i) ∙ append-nil (output_after (number_due P lent) (written (contents_of P)) (take lent sheet)) ∙ ap (λ s. output_after (number_due P lent) (written (contents_of P)) s) front)
        (λ h. let none : lent ≡ 0 = l ∙ rw h refl in
        let d : eqb (number_due P lent) done_number ≡ false = ne_eqb (number_due P lent) done_number (λ q. due-some P (ap (number_due P) (sym none) ∙ q)) in
        let most = due-most P lent in
        ap (λ s. s ++ drop lent sheet) (held ∙ kept (number_due P lent) most d (written (contents_of P)) (take lent sheet)) ∙ take-append-drop lent sheet ∙ sym (kept (number_due P lent) most d (written (contents_of P)) sheet))

    pub told : {r : ℕ} {values' : List ℕ} → r ≡ number_told w → values' ≡ values_told w values → Told P well sheet values r (part ++ drop lent sheet) values'
    told {r} n v =
        let d : r ≡ number_due P lent = n ∙ told-number P lent (length (written (contents_of P))) answer-is in
        record {
          number = d ∙ sym number_is;
          sheet-is = rw d sheet-told;
          values-are = rw d (v ∙ told-values (number_due P lent) (length (written (contents_of P))) answer-is (due-most P lent) values);
        }

-- ---- two results that keep the promise coincide

pub record Result : Type 0 where
  pub number : ℕ
  pub sheet : List ℕ
  pub values : List ℕ

module _ (P : Parts) (well : Bool) (sheet values : List ℕ) where
  abbrev pub Keeps : Result → Type 0
  Keeps r = Told P well sheet values r.number r.sheet r.values

  pub coincide : Determines Keeps
  coincide r q a b =
      let n : r.number ≡ q.number = a.number ∙ sym b.number in
      λ i. record {
        number = n i;
        sheet = (a.sheet-is ∙ ap (λ k. output_after k (written (contents_of P)) sheet) n ∙ sym b.sheet-is) i;
        values = (a.values-are ∙ ap (λ k. output_after k (0 ∷ length (written (contents_of P)) ∷ []) values) n ∙ sym b.values-are) i;
      }

-- ---- what is known of the ends once number 1 is not due for them

module _ (source sinks : ℕ) {t : Bool} (e : t ≡ ends_good source sinks) (g : not t ≡ false) where
  pub source-whole : end_numbers ≤ source
  unfolding ends_good
  source-whole = let w : ends_good source sinks ≡ true = test-passes e g in let five : source ≡ end_numbers = search passed in omega (arith, five)

  pub sinks-few : sinks / sink_numbers ≤ max_sinks
  unfolding ends_good
  sinks-few = let w : ends_good source sinks ≡ true = test-passes e g in search passed
