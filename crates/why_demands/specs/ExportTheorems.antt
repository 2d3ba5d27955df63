-- The same of `dustroute_why`, from its promise alone: number 11 gives the true reason. Fewer than four values are refused, and nothing is said then.
use Rattle.std.specs.Prelude.{◌≡◌, refl, true, List, ℕ, ◌≤◌, length}
use Rattle.std.proofs.Common.{sym, ◌∙◌, arith, le-leb}
use Rattle.std.proofs.lemmas.Bool.{lt-leb}
use Rattle.numbers.specs.Refusals.{no_route_number}
use Rattle.basics.specs.Tests.{ask_less}
use Rattle.routing.specs.Answers.{Answer}
use Rattle.routing.specs.declared.Refusal.{Refusal}
use Rattle.routing.specs.declared.Refusal.TheVariants.{Sides, Config, Buffer, Code, Position}
use Rattle.routing.specs.Answers.{Input, task_of, refusal_number, number_of}
use Rattle.why.specs.Why.{Memory, Promise, answer_in}
use Rattle.exports.specs.Export.{short_refusal, values_told}
use Rattle.exports.specs.WhyExport.{WhyExported, exported_why}
use Rattle.why_demands.specs.Statements.{WalledIn}
use Rattle.why_demands.specs.Theorems.{walled_in}

-- the number and the values tell of an answer, which goes with the lent memory as the promise of `why_no_route` has it
pub record WhyExportMeans (I : Input) (M : Memory) (values : List ℕ) (r : ℕ) (M' : Memory) (values' : List ℕ) : Type 0 where
  pub answer : Answer
  pub number_is : r ≡ number_of answer
  pub values-are : values' ≡ values_told answer values
  pub promised : Promise I M answer M'

-- a refusal has another number
refused_else : (why : Refusal) → refusal_number why ≡ no_route_number → ⊥
refused_else Sides e = omega arith
refused_else Config e = omega arith
refused_else Buffer e = omega arith
refused_else Code e = omega arith
refused_else Position e = omega arith

module _ {I : Input} {M : Memory} {values : List ℕ} {r : ℕ} {M' : Memory} {values' : List ℕ} (K : WhyExported I M values r M' values') where
  enough : 4 ≤ length values → exported_why I M values ≡ answer_in I M
  unfolding exported_why
  enough h = rw (le-leb 4 (length values) h)

  pub why_export_means : 4 ≤ length values → WhyExportMeans I M values r M' values'
  why_export_means h =
      let same = enough h in
      record {
        answer = answer_in I M;
        number_is = rw same at K.number;
        values-are = rw same at K.values-is;
        promised = record { answer = refl; memory = rw same at K.memory };
      }

  -- number 11 says that enough values were lent
  four-lent : r ≡ no_route_number → 4 ≤ length values
  unfolding exported_why
  four-lent z =
      ask_less (length values) 4
      (λ h. absurd (refused_else (short_refusal I.room I.config) (sym (rw (lt-leb 4 (length values) h, z) at K.number))))
      (λ h. h)

  pub export_walled_in : r ≡ no_route_number → WalledIn (task_of I) M'.reached M'.walls
  export_walled_in z = let W = why_export_means (four-lent z) in walled_in W.promised (sym W.number_is ∙ z)
