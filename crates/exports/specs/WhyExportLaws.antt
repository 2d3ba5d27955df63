-- The promise of the exported question, by its cases; and that it determines everything.
use Rattle.std.specs.Prelude.{◌≡◌, List, ℕ, ◌≤◌, ◌<◌, length}
use Rattle.std.proofs.Common.{sym, ◌∙◌}
use borrow.Author.Tests.{le-leb, lt-leb}
use Rattle.basics.specs.Promises.{Determines}
use Rattle.routing.specs.Answers.{Answer}
use Rattle.routing.specs.Answers.{Input, number_of, refusal_number}
use Rattle.routing.specs.PromiseLaws.{untouched}
use Rattle.why.specs.Why.{Memory, Promise}
use Rattle.why.specs.WhyLaws.{memory-one}
use Rattle.exports.specs.Export.{short_refusal, values_told}
use Rattle.exports.specs.WhyExport.{exported_why, WhyExported}

module _ {I : Input} {M : Memory} {values : List ℕ} where
  -- too few values: nothing is touched
  pub why_export_short : length values < 4 → WhyExported I M values (refusal_number (short_refusal I.room I.config)) M values
  unfolding exported_why
  why_export_short h =
      let e = lt-leb 4 (length values) h in
      let u = untouched (short_refusal I.room I.config) in
      record {
        number = rw e;
        memory = record {
          path-is = rw (e, u);
          known_is = rw (e, u);
          previous-is = rw (e, u);
          classes-is = rw (e, u);
          queue-is = rw (e, u);
          reached-is = rw (e, u);
          walls-is = rw (e, u);
        };
        values-is = rw (e, u);
      }

  -- the answer, told
  pub why_export_told : {a : Answer} {r : ℕ} {M' : Memory} {values' : List ℕ} → 4 ≤ length values → Promise I M a M' → r ≡ number_of a
      → values' ≡ values_told a values → WhyExported I M values r M' values'
  unfolding exported_why
  why_export_told h P n v =
      let e = le-leb 4 (length values) h in
      record { number = rw e (rw P.answer at n); memory = rw e P.memory; values-is = rw e (rw P.answer at v) }

-- ---- two results that keep the promise coincide: the number, the values, and every byte of lent memory

pub record Result : Type 0 where
  pub number : ℕ
  pub memory : Memory
  pub values : List ℕ

module _ (I : Input) (M : Memory) (values : List ℕ) where
  abbrev pub Keeps : Result → Type 0
  Keeps R = WhyExported I M values R.number R.memory R.values

  pub coincide : Determines Keeps
  coincide x y P Q = λ i. record {
    number = (P.number ∙ sym Q.number) i;
    memory = memory-one P.memory Q.memory i;
    values = (P.values-is ∙ sym Q.values-is) i;
  }
