-- What `dustroute_why` returns, and what every lent buffer then holds: the answer of `why_no_route` as numbers. Each input determines all of it.
use Rattle.std.specs.Prelude.{◌≡◌, List, ℕ, leb, length, Err}
use Rattle.basics.specs.Tests.{either}
use Rattle.routing.specs.Answers.{Answer}
use Rattle.routing.specs.declared.Unrouted.TheVariants.{Refused}
use Rattle.routing.specs.Answers.{Input, number_of}
use Rattle.why.specs.Why.{Memory, MemoryAfter, answer_in}
use Rattle.exports.specs.Export.{short_refusal, values_told}

-- fewer than four values are number 6, at 6's place, as of `dustroute_search`
unfoldable pub exported_why : Input → Memory → List ℕ → Answer
exported_why I M values = either (leb 4 (length values)) (answer_in I M) (Err (Refused (short_refusal I.room I.config)))

-- The promise of `dustroute_why`. "Numbers 1 to 6 touch nothing", the values included; any other number writes the values of a search.
pub record WhyExported (I : Input) (M : Memory) (values : List ℕ) (r : ℕ) (M' : Memory) (values' : List ℕ) : Type 0 where
  pub number : r ≡ number_of (exported_why I M values)
  pub memory : MemoryAfter (exported_why I M values) I M M'
  pub values-is : values' ≡ values_told (exported_why I M values) values
