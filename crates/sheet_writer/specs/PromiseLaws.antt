-- The promise of the writer, by its cases.
use Rattle.std.specs.Prelude.{◌≡◌, Ok, Err, refl, Bool, true, false, not, List, [], ◌++◌, ℕ, ◌-◌, ◌%◌, ◌≤◌, ◌<◌, take, drop, replicate}
use Rattle.std.proofs.Math.Path.{sym, ap}
use Rattle.std.proofs.Common.{◌∙◌, append-nil, arith, length-drop, drop_of_length-le, take_all}
use Rattle.std.proofs.Math.ListN.{length, length-map}
use borrow.Author.Tests.{le-leb, lt-leb}
use borrow.Rule.Slice.PartMut.{mid_of, put_mid}
use Rattle.numbers.specs.declared.Refusal.{Refusal}
use Rattle.numbers.specs.declared.Refusal.TheVariants as refusal
use Rattle.numbers.specs.Refusals.{done_number, buffer_number}
use Rattle.basics.specs.Tests.{ask, test_fails, test-passes, never}
use Rattle.lent.specs.Lent.{filled, output_after}
use Rattle.putting.specs.Putting.{Put}
use Rattle.job_sheet.specs.declared.Judgement.{Judgement}
use Rattle.job_sheet.specs.declared.Judgement.TheVariants.{Good, Sheet, Sides, Config, Position, Code}
use Rattle.job_sheet.specs.declared.Version.{Version}
use Rattle.job_sheet.specs.Version.{sides_place}
use Rattle.job_sheet.specs.Sheet.{max_sinks, rest, bytes_by, is_good, judged, number_of}
use Rattle.job_sheet.proofs.FaultLaws.{good-is}
use Rattle.sheet_writer.specs.declared.Lengths.{Lengths}
use Rattle.sheet_writer.specs.Writer.{Parts, contents_of, version_for, written, lengths_in, formed, judged_parts, number_due, refusal_of, answer_of, Promise, low}
use Rattle.sheet_writer.specs.ChoiceLaws.{writable}
use Rattle.sheet_writer.specs.Sizes.{sheet_length, Few}
use Rattle.sheet_writer.specs.SizeLaws.{formed-few, formed-sinks, formed-short, sheet-long, sinks-count}
use Rattle.sheet_writer.specs.Texts.{sheet_text, Filling}
use Rattle.sheet_writer.specs.TextLaws.{sheet-text}
use Rattle.sheet_writer.specs.ByteLaws.{low_same, good-bytes, Words, nodes-held}

-- ---- the text, and zeros behind it

pub zeros-behind : (bytes : ℕ) (text out : List ℕ) {end : ℕ} {out' part : List ℕ} → length text ≡ bytes → bytes ≤ length out → Put out 0 text out' end
    → part ≡ replicate (length (mid_of bytes (length out' - bytes) out')) 0 → put_mid bytes (length out' - bytes) out' part ≡ filled text out
zeros-behind bytes text out {end} {out'} {part} e h p z =
    let at-end : end ≡ bytes = omega (arith, p.ends, e) in
    let front : take bytes out' ≡ text = ap (λ n. take n out') (sym at-end) ∙ p.front in
    let same : length out' ≡ length out = p.same in
    let behind-long : length (drop bytes out') ≤ length out' - bytes = rw length-drop (omega arith) in
    let mid : length (mid_of bytes (length out' - bytes) out') ≡ length out - length text = ap length (take_all (length out' - bytes) (drop bytes out') behind-long) ∙ length-drop bytes out' ∙ omega (arith, same, e) in
    let none : drop (length out' - bytes) (drop bytes out') ≡ [] = drop_of_length-le (drop bytes out') behind-long in
    (λ i. front i ++ ((z ∙ ap (λ n. replicate n 0) mid) i ++ none i)) ∙ ap (λ l. text ++ l) (append-nil (replicate (length out - length text) 0))

-- ---- the number that is due

-- a fault's number tells itself, and touches nothing
fault_told : (v : Judgement) → is_good v ≡ false → (bytes : ℕ) → Err (refusal_of (number_of v)) ≡ answer_of (number_of v) bytes
fault_told Good f bytes = never (cc)
fault_told Sheet f bytes = refl
fault_told Sides f bytes = refl
fault_told Config f bytes = refl
fault_told Position f bytes = refl
fault_told Code f bytes = refl

pub fault_kept : (v : Judgement) → is_good v ≡ false → (cells out : List ℕ) → out ≡ output_after (number_of v) cells out
fault_kept Good f cells out = never (cc)
fault_kept Sheet f cells out = refl
fault_kept Sides f cells out = refl
fault_kept Config f cells out = refl
fault_kept Position f cells out = refl
fault_kept Code f cells out = refl

-- the parts have no fault
pub record Faultless (P : Parts) : Type 0 where
  pub well : formed P ≡ true
  pub good : judged (version_for (contents_of P)) (contents_of P) ≡ Good

pub no_faults : (P : Parts) → is_good (judged_parts P) ≡ true → Faultless P
unfolding judged_parts
no_faults P g = ask (formed P) (λ t. record { well = t; good = good-is _ (rw t at g) }) (λ f. let z : is_good Sheet ≡ true = rw f at g in never (cc))

pub faultless-good : (P : Parts) → Faultless P → judged_parts P ≡ Good
unfolding judged_parts
faultless-good P F = rw F.well F.good

module _ (P : Parts) (lent : ℕ) (F : Faultless P) where
  pub due-none : length (written (contents_of P)) ≤ lent → number_due P lent ≡ done_number
  unfolding number_due
  due-none h = rw (faultless-good P F, le-leb (length (written (contents_of P))) lent h)

  pub due-six : lent < length (written (contents_of P)) → number_due P lent ≡ buffer_number
  unfolding number_due
  due-six h = rw (faultless-good P F, lt-leb (length (written (contents_of P))) lent h)

-- ---- what the code finds

module _ (P : Parts) (whole : length P.sinks.ends ≡ max_sinks) (out : List ℕ) {v : Judgement} (j : v ≡ judged_parts P) {t : Bool} (e : t ≡ is_good v) where
  due_fault : is_good v ≡ false → number_due P (length out) ≡ number_of v
  unfolding number_due
  due_fault f = rw (← j, f)

  pub promise_fault : not t ≡ true → {why : Refusal} → why ≡ refusal_of (number_of v) → Promise P out (Err why) out
  promise_fault h {why} is =
      let f : is_good v ≡ false = test_fails e h in
      let d = due_fault f in
      record {
        answers = ap Err is ∙ rw d (fault_told v f (length (written (contents_of P))));
        holds = rw d (fault_kept v f (written (contents_of P)) out);
      }

  module _ (h : not t ≡ false) where
    faultless : Faultless P
    faultless = no_faults P (sym (ap is_good j) ∙ test-passes e h)

    pub few-lists : {n : Lengths} → n ≡ lengths_in P → Few n
    few-lists of = rw of (formed-few P whole faultless.well)

    pub few-sinks : P.sinks.count ≤ max_sinks
    few-sinks = formed-sinks P faultless.well

    module _ {w : Version} (in-version : w ≡ version_for (contents_of P)) {n : Lengths} (of : n ≡ lengths_in P) {bytes : ℕ} (s : bytes ≡ sheet_length w n) where
      inside : P.sinks.count ≤ length P.sinks.ends
      inside = omega (arith, few-sinks, whole)

      bytes-are : bytes ≡ length (written (contents_of P))
      bytes-are = s ∙ (λ i. sheet_length (in-version i) (of i)) ∙ sym (sheet-long P inside (version_for (contents_of P)))

      rest-is : bytes - sides_place ≡ length (rest (version_for (contents_of P)) (contents_of P))
      unfolding bytes_by
      rest-is = omega (arith, bytes-are)

      text-is : sheet_text w (bytes - sides_place) P ≡ low (written (contents_of P))
      text-is = (λ i. sheet_text (in-version i) (rest-is i) P) ∙ sheet-text P inside (version_for (contents_of P))

      pub promise_short : length out < bytes → Promise P out (Err refusal.Buffer) out
      promise_short l =
          let d = due-six P (length out) faultless (omega (arith, bytes-are, l)) in
          record { answers = rw d refl; holds = rw d refl }

      pub filling : bytes ≤ length out → Filling w bytes P out
      unfolding bytes_by
      filling l = record {
        long = ap length text-is ∙ length-map (written (contents_of P)) (λ x. x % 256) ∙ sym bytes-are;
        some = omega (arith, bytes-are);
        place = l;
      }

      pub promise_written : bytes ≤ length out → Words P.blocks → {out' : List ℕ} → out' ≡ filled (sheet_text w (bytes - sides_place) P) out → Promise P out (Ok bytes) out'
      unfolding contents_of
      promise_written l words f =
          let J = contents_of P in
          let d = due-none P (length out) faultless (omega (arith, bytes-are, l)) in
          let all = good-bytes (version_for J) (writable J) J faultless.good (formed-short P faultless.well) (omega (arith, sinks-count P inside, few-sinks)) (nodes-held P.blocks words) in
          let text : sheet_text w (bytes - sides_place) P ≡ written J = text-is ∙ low_same (written J) all in
          record { answers = rw d (ap Ok bytes-are); holds = rw d (f ∙ ap (λ x. filled x out) text) }
