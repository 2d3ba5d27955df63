-- What the writer's promise comes to. `Promise P out r out'` is what `write_sheet` promises of its answer r and of the output; `Read sheet q` is what
-- each of the two readers promises of its answer q.
use Rattle.std.specs.Prelude as results
use Rattle.std.specs.Prelude.{◌≡◌, Ok, Err, refl, true, false, ◌&&◌, List, ◌++◌, ℕ, ◌-◌, ◌≤◌, ◌<◌, leb, eqb, length, take, replicate}
use Rattle.std.proofs.Common.{sym, ap, ◌∙◌, arith, length-take, take_at, le-leb, eqb-true}
use Rattle.std.proofs.Math.Nat.{min-le_left}
use Rattle.numbers.specs.declared.Refusal.{Refusal}
use Rattle.numbers.specs.Refusals.{done_number}
use Rattle.basics.specs.Tests.{ask, and_left, and_right, and_both, passed, never}
use Rattle.basics.specs.Promises.{Determines}
use Rattle.lent.specs.Lent.{filled}
use Rattle.job_sheet.specs.declared.Job.{Job}
use Rattle.job_sheet.specs.declared.Reading.{Reading}
use Rattle.job_sheet.specs.declared.Judgement.{Judgement}
use Rattle.job_sheet.specs.declared.Judgement.TheVariants.{Good, Sheet, Sides, Config, Position, Code}
use Rattle.job_sheet.specs.Version.{version_one, version_two, version_three, version_in}
use Rattle.job_sheet.specs.Sheet.{Contents, Means, max_bytes, max_sinks, usual, bytes_by, is_good, judged, number_of, accepted, Read}
use Rattle.job_sheet.specs.Accepted.{Accepted}
use Rattle.job_sheet.proofs.Theorems.{answers-meaning, means-by}
use Rattle.sheet_writer.specs.Writer.{Parts, contents_of, holds_first, version_for, written, wholes, lengths_in, formed, judged_parts, number_due, refusal_of, Promise, block_list, position_list, parts_of}
use Rattle.sheet_writer.specs.ChoiceLaws.{writable, limits-told, written_version, for_usual, for_others, for_halls, held_first, Lowest, lowest}
use Rattle.sheet_writer.specs.SizeLaws.{formed-sinks, formed-short}
use Rattle.sheet_writer.specs.NumberLaws.{contents-again, parts_whole, parts-sinks, blocks-again, positions-again}
use Rattle.sheet_writer.specs.PromiseLaws.{Faultless, no_faults, due-none}

-- ---- every input determines the answer and every byte of the output

pub record Result : Type 0 where
  pub answer : results.Result ℕ Refusal
  pub out : List ℕ

module _ (P : Parts) (out : List ℕ) where
  abbrev pub Keeps : Result → Type 0
  Keeps r = Promise P out r.answer r.out

  pub coincide : Determines Keeps
  coincide r q a b i = record { answer = (a.answers ∙ sym b.answers) i; out = (a.holds ∙ sym b.holds) i }

-- ---- what was written is read as what went in

pub not_done : (v : Judgement) → is_good v ≡ false → number_of v ≡ done_number → ⊥
not_done Good f e = never (cc)
not_done Sheet f e = omega arith
not_done Sides f e = omega arith
not_done Config f e = omega arith
not_done Position f e = omega arith
not_done Code f e = omega arith

pub due-judged : (P : Parts) (lent : ℕ) → number_due P lent ≡ done_number → Faultless P
unfolding number_due
due-judged P lent e =
    ask (is_good (judged_parts P)) (λ t. no_faults P t) (λ f. absurd (not_done (judged_parts P) f (rw f at e)))

-- a success has no number, and tells how many bytes
record Success (P : Parts) (out : List ℕ) (n : ℕ) : Type 0 where
  pub done : number_due P (length out) ≡ done_number
  pub bytes : n ≡ length (written (contents_of P))

success : (P : Parts) (out out' : List ℕ) (n : ℕ) → Promise P out (Ok n) out' → Success P out n
success P out out' n p =
    ask (eqb (number_due P (length out)) done_number)
    (λ t. let e : Ok n ≡ Ok (length (written (contents_of P))) = p.answers ∙ rw t refl in record { done = eqb-true _ _ t; bytes = cc })
    (λ f. let e : Ok n ≡ Err (refusal_of (number_due P (length out))) = p.answers ∙ rw f refl in never (cc))

few-taken : (P : Parts) → P.sinks.count ≤ max_sinks → length (contents_of P).sinks ≤ max_sinks
unfolding contents_of
few-taken P h = rw length-take (omega (arith, min-le_left P.sinks.count (length P.sinks.ends)))

pub record ReadsBack (P : Parts) (sheet : List ℕ) : Type 0 where
  pub sheet-is : sheet ≡ written (contents_of P)
  pub means : Means sheet (contents_of P)
  pub reads : (q : Reading) → Read sheet q → q ≡ accepted (version_for (contents_of P)) (contents_of P)

-- the bytes that are written mean the job, and are read as it
means-written : (J : Contents) → length (written J) ≤ max_bytes → length J.sinks ≤ max_sinks → Means (written J) J
means-written J s k = means-by (version_for J) (writable J).known (record { bytes = refl; limits = limits-told J; short = s; few-sinks = k })

reads-written : (J : Contents) → Means (written J) J → judged (version_for J) J ≡ Good → (q : Reading) → Read (written J) q → q ≡ accepted (version_for J) J
reads-written J m g q r = answers-meaning (written J) J q m r ∙ rw (written_version (written J) J refl, g) refl

pub written-reads : (P : Parts) (out out' : List ℕ) (n : ℕ) → Promise P out (Ok n) out' → ReadsBack P (take n out')
written-reads P out out' n p =
    let J = contents_of P in
    let S = success P out out' n p in
    let F = due-judged P (length out) S.done in
    let holds : out' ≡ filled (written J) out = p.holds ∙ rw S.done refl in
    let is : take n out' ≡ written J = (λ i. take (S.bytes i) (holds i)) ∙ take_at (written J) (replicate (length out - length (written J)) 0) (length (written J)) refl in
    let m : Means (written J) J = means-written J (formed-short P F.well) (few-taken P (formed-sinks P F.well)) in
    rw is (record { sheet-is = refl; means = m; reads = reads-written J m F.good })

-- "order and repeats kept": the lists of what was read, as numbers, are those that went in
pub record ListsBack (P : Parts) (J : Contents) : Type 0 where
  pub blocks : block_list J.blocks ≡ P.blocks
  pub conductors : position_list J.conductors ≡ P.conductors
  pub clearances : position_list J.clearances ≡ P.clearances
  pub terminals : position_list J.terminals ≡ P.terminals
  pub reserved : position_list J.reserved ≡ P.reserved

pub lists_back : (P : Parts) (out out' : List ℕ) (n : ℕ) → Promise P out (Ok n) out' → ListsBack P (contents_of P)
unfolding contents_of formed
lists_back P out out' n p =
    let S = success P out out' n p in
    let w : formed P ≡ true = (due-judged P (length out) S.done).well in
    let bytes = leb (length (written (contents_of P))) max_bytes in
    let all : wholes (lengths_in P) ≡ true = and_left (wholes (lengths_in P)) bytes (and_right (leb P.sinks.count max_sinks) (wholes (lengths_in P) && bytes) w) in
    record {
      blocks = blocks-again P.blocks (search passed);
      conductors = positions-again P.conductors (search passed);
      clearances = positions-again P.clearances (search passed);
      terminals = positions-again P.terminals (search passed);
      reserved = positions-again P.reserved (search passed);
    }

-- ---- the writer refuses nothing that the reader accepts, given the length

pub refuses_nothing : (P : Parts) (sheet : List ℕ) → Means sheet (contents_of P) → judged (version_in sheet) (contents_of P) ≡ Good
    → P.sinks.count ≤ max_sinks → wholes (lengths_in P) ≡ true → (lent : ℕ) → length sheet ≤ lent → number_due P lent ≡ done_number
unfolding formed
refuses_nothing P sheet m g k w lent h =
    let L : Lowest (version_in sheet) (contents_of P) = lowest _ (contents_of P) m.limits g in
    let most : length (written (contents_of P)) ≤ length sheet = rw m.bytes at L.bytes_most in
    let F : Faultless P = record { well = and_both (le-leb P.sinks.count max_sinks k) (and_both w (le-leb (length (written (contents_of P))) max_bytes (omega (arith, most, m.short)))); good = L.still-good g } in
    due-none P lent F (omega (arith, most, h))

-- ---- an accepted sheet, taken apart and written: one of its job's version gives its own bytes back, any other the same job

pub record GivesBack (sheet : List ℕ) (J : Contents) (out : List ℕ) (r : results.Result ℕ Refusal) (out' : List ℕ) : Type 0 where
  pub answers : r ≡ Ok (length (written J))
  pub holds : out' ≡ filled (written J) out
  pub own-bytes : version_in sheet ≡ version_for J → written J ≡ sheet
  pub same-job : (q : Reading) → Read (written J) q → q ≡ accepted (version_for J) J

pub gives_back : (sheet : List ℕ) (job : Job) (A : Accepted sheet job) (out : List ℕ) → length sheet ≤ length out
    → (r : results.Result ℕ Refusal) (out' : List ℕ) → Promise (parts_of A.contents) out r out' → GivesBack sheet A.contents out r out'
gives_back sheet job A out h r out' p =
    let J = A.contents in
    let P = parts_of J in
    let m = A.means in
    let L : Lowest (version_in sheet) J = lowest _ J m.limits A.good in
    let most : length (written J) ≤ length sheet = rw m.bytes at L.bytes_most in
    let again : contents_of P ≡ J = contents-again J in
    let m' : Means sheet (contents_of P) = rw again m in
    let d = refuses_nothing P sheet m' (ap (judged (version_in sheet)) again ∙ A.good) (rw (parts-sinks J) m.few-sinks) (parts_whole J) (length out) h in
    record {
      answers = p.answers ∙ rw (d, again) refl;
      holds = p.holds ∙ rw (d, again) refl;
      own-bytes = λ e. ap (λ v. bytes_by v J) (sym e) ∙ m.bytes;
      same-job = reads-written J (means-written J (omega (arith, most, m.short)) m.few-sinks) (L.still-good A.good);
    }

-- accepted version 1 sheets are of their job's version, and so are those of version 2 with other limits, and of version 3 with a job that neither holds
module _ (sheet : List ℕ) (job : Job) (A : Accepted sheet job) where
  pub one-own : version_in sheet ≡ version_one → version_in sheet ≡ version_for A.contents
  one-own e = e ∙ sym (for_usual A.contents (held_first version_one A.contents refl (rw e at A.good)) (rw e at A.means.limits))

  pub two-own : version_in sheet ≡ version_two → usual A.contents ≡ false → version_in sheet ≡ version_for A.contents
  two-own e f = e ∙ sym (for_others A.contents (held_first version_two A.contents refl (rw e at A.good)) f)

  pub three-own : version_in sheet ≡ version_three → holds_first A.contents ≡ false → version_in sheet ≡ version_for A.contents
  three-own e n = e ∙ sym (for_halls A.contents n)

-- and no sheet of a lower version is accepted as that job
pub none-lower : (sheet : List ℕ) (job : Job) (A : Accepted sheet job) → (version_for A.contents).number ≤ (version_in sheet).number
none-lower sheet job A = (lowest _ A.contents A.means.limits A.good).number-most
