-- THE PLAIN ENGINE'S CLAIMS of `dustroute_plain`, from its promise alone, and beside `dustroute_search`: the numbers that come back and the values tell of
-- answers, which say with the path buffer, and compare, as Statements has it. Too few values are refused, and nothing is said then.
use Rattle.std.specs.Prelude.{◌≡◌, List, ℕ, ◌≤◌, length}
use Rattle.std.proofs.Common.{arith}
use Rattle.lent.specs.Lent.{output_after}
use Rattle.room.specs.declared.Nodes.{Nodes}
use Rattle.routing.specs.declared.Lengths.{Lengths}
use Rattle.routing.specs.Answers.{Answer}
use Rattle.routing.specs.Answers as first
use Rattle.routing.specs.Answers.{Input}
use Rattle.exports.specs.Export.{values_told, Exported}
use Rattle.exports.specs.PlainExport.{plain_value_count, plain_values, PlainExported, plain-short, plain-told}
use Rattle.demands.specs.Statements.{Unrefused}
use Rattle.demands.specs.ExportTheorems.{export_means}
use Rattle.plain.specs.Answers.{PlainAnswer}
use Rattle.plain.specs.Answers.{number_of}
use Rattle.plain_claims.specs.Statements.{PlainMeaning, search_input, Compares}
use Rattle.plain_claims.specs.Theorems.{plain-means, compares}

pub record PlainExportMeans (I : Input) (path values : List ℕ) (r : ℕ) (path' values' : List ℕ) : Type 0 where
  pub answer : PlainAnswer
  pub number_is : r ≡ number_of answer
  pub values-are : values' ≡ output_after (number_of answer) (plain_values answer) values
  pub means : PlainMeaning I path answer path'

module _ {I : Input} {path known previous classes values : List ℕ} {r : ℕ} {path' known' previous' classes' values' : List ℕ} where
  pub plain_export_means : PlainExported I path known previous classes values r path' known' previous' classes' values' → plain_value_count ≤ length values
      → PlainExportMeans I path values r path' values'
  plain_export_means (plain-short h n p k q c v) e = absurd (omega arith)
  plain_export_means (plain-told h a P n v) e = record { answer = a; number_is = n; values-are = v; means = plain-means I P }

-- the two exported engines over the same room, costs, kinds and ends
pub record ExportsCompare (J : Input) (values values₁ : List ℕ) (r : ℕ) (values' : List ℕ) (n : ℕ) (values₂ : List ℕ) : Type 0 where
  pub answer : PlainAnswer
  pub number_is : r ≡ number_of answer
  pub values-are : values' ≡ output_after (number_of answer) (plain_values answer) values
  pub first-answer : Answer
  pub first-number-is : n ≡ first.number_of first-answer
  pub first-values-are : values₂ ≡ values_told first-answer values₁
  pub compares : Compares J answer first-answer

module _ {I : Input} {path known previous classes values : List ℕ} {r : ℕ} {path' known' previous' classes' values' : List ℕ} (U : Unrefused I) (limit : Nodes)
    (lengths : Lengths) {path₁ known₁ previous₁ classes₁ queue₁ values₁ : List ℕ} {n : ℕ} {path₂ known₂ previous₂ classes₂ queue₂ values₂ : List ℕ} where
  pub exports_compare : PlainExported I path known previous classes values r path' known' previous' classes' values' → plain_value_count ≤ length values
      → Exported (search_input I limit lengths) path₁ known₁ previous₁ classes₁ queue₁ values₁ n path₂ known₂ previous₂ classes₂ queue₂ values₂ → 4 ≤ length values₁
      → ExportsCompare (search_input I limit lengths) values values₁ r values' n values₂
  exports_compare (plain-short h m p k q c v) e K f = absurd (omega arith)
  exports_compare (plain-told h a P m v) e K f =
      let S = export_means K f in
      record {
        answer = a;
        number_is = m;
        values-are = v;
        first-answer = S.answer;
        first-number-is = S.number_is;
        first-values-are = S.values-are;
        compares = compares I P U limit lengths S.means S.answer-is;
      }
