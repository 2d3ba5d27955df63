-- THE THIRD DEMAND of `dustroute_search`, from its promise alone: the number that comes back and the values tell of an answer, which says with the path
-- buffer what Statements has it say. Fewer than four values are refused, and nothing is said then.
use Rattle.std.specs.Prelude.{◌≡◌, refl, true, List, ℕ, ◌≤◌, leb, length}
use Rattle.std.proofs.Common.{le-leb}
use Rattle.routing.specs.Answers.{Answer}
use Rattle.routing.specs.Answers.{Input, Promise, answer_of, number_of}
use Rattle.exports.specs.Export.{Exported, exported, values_told}
use Rattle.demands.specs.Statements.{Meaning}
use Rattle.demands.specs.Theorems.{third_demand}

pub record ExportMeans (I : Input) (path values : List ℕ) (r : ℕ) (path' values' : List ℕ) : Type 0 where
  pub answer : Answer
  pub answer-is : answer ≡ answer_of I
  pub number_is : r ≡ number_of answer
  pub values-are : values' ≡ values_told answer values
  pub means : Meaning I path answer path'

told : (I : Input) (values : List ℕ) → leb 4 (length values) ≡ true → exported I values ≡ answer_of I
unfolding exported
told I values e = rw e

module _ {I : Input} {path known previous classes queue values : List ℕ} {r : ℕ} {path' known' previous' classes' queue' values' : List ℕ}
    (K : Exported I path known previous classes queue values r path' known' previous' classes' queue' values') (h : 4 ≤ length values) where
  -- the answer is the search's, and so is what its memory holds
  pub same : exported I values ≡ answer_of I
  same = told I values (le-leb 4 (length values) h)

  pub promised : Promise I path known previous classes queue (answer_of I) path' known' previous' classes' queue'
  promised = record {
    answer = refl;
    path-is = rw same at K.path-is;
    known_is = rw same at K.known_is;
    previous-is = rw same at K.previous-is;
    classes-is = rw same at K.classes-is;
    queue-is = rw same at K.queue-is;
  }

  pub export_means : ExportMeans I path values r path' values'
  export_means = record {
    answer = answer_of I;
    answer-is = refl;
    number_is = rw same at K.number;
    values-are = rw same at K.values-is;
    means = third_demand I promised;
  }
