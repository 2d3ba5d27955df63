-- `insert_repeaters` as it is told in numbers: its values as the code writes them, its promise by its cases, and that this determines everything.
use Rattle.std.specs.Prelude.{Result, Ok, Err, ◌≡◌, List, [], ◌∷◌, ℕ, ◌≤◌, ◌<◌, length}
use Rattle.std.proofs.Common.{sym, ◌∙◌}
use borrow.Author.Tests.{le-leb, lt-leb}
use Rattle.basics.specs.Promises.{Determines}
use Rattle.numbers.specs.Refusals.{done_number}
use Rattle.lent.specs.Lent.{filled, output_after}
use Rattle.room.specs.declared.Room.{Room}
use Rattle.routing.specs.declared.Refusal.{Refusal}
use Rattle.routing.specs.Answers.{refusal_number}
use Rattle.drawing.specs.Answers.{listed_number, ListPromise}
use Rattle.drawing.specs.PromiseLaws.{untouched}
use Rattle.drawing.specs.Told.{short_refusal, list_value_count, list_values, listed_told, ListTold}

module _ {a : Result ℕ Refusal} (values : List ℕ) where
  pub listed-told : {count : ℕ} → a ≡ Ok count → {values' : List ℕ} → values' ≡ filled (0 ∷ count ∷ []) values
      → (done_number ≡ listed_number a) × (values' ≡ output_after (listed_number a) (list_values a) values)
  listed-told e w = (rw e, rw e w)

  pub listed-untold : (why : Refusal) → a ≡ Err why → {r : ℕ} → r ≡ refusal_number why
      → (r ≡ listed_number a) × (values ≡ output_after (listed_number a) (list_values a) values)
  listed-untold why e n = (rw e n, rw (e, untouched why))

-- ---- the promise

module _ (R : Room) (limit : ℕ) (kinds path cells facings values : List ℕ) where
  pub list-short : length values < list_value_count → {r : ℕ} → r ≡ refusal_number (short_refusal R)
      → ListTold R limit kinds path cells facings values r kinds cells facings values
  unfolding listed_told
  list-short h n = let e = lt-leb list_value_count (length values) h in
      let u = untouched (short_refusal R) in
      record { number = rw e n; kinds-is = rw (e, u); cells_is = rw (e, u); facings-is = rw (e, u); values-is = rw (e, u) }

  pub list-told : list_value_count ≤ length values → {a : Result ℕ Refusal} {r : ℕ} {kinds' cells' facings' values' : List ℕ}
      → ListPromise R limit kinds path cells facings a kinds' cells' facings' → r ≡ listed_number a
      → values' ≡ output_after (listed_number a) (list_values a) values
      → ListTold R limit kinds path cells facings values r kinds' cells' facings' values'
  unfolding listed_told
  list-told h P n v = let e = le-leb list_value_count (length values) h in
      record {
        number = rw (e, ← P.answer) n;
        kinds-is = rw e P.kinds-is;
        cells_is = rw e P.cells_is;
        facings-is = rw e P.facings-is;
        values-is = rw (e, ← P.answer) v;
      }

-- two results that keep the promise coincide
pub record ListToldResult : Type 0 where
  pub number : ℕ
  pub kinds : List ℕ
  pub cells : List ℕ
  pub facings : List ℕ
  pub values : List ℕ

module _ (R : Room) (limit : ℕ) (kinds path cells facings values : List ℕ) where
  abbrev pub KeepsListTold : ListToldResult → Type 0
  KeepsListTold x = ListTold R limit kinds path cells facings values x.number x.kinds x.cells x.facings x.values

  pub coincide : Determines KeepsListTold
  coincide x y P Q = λ i. record {
    number = (P.number ∙ sym Q.number) i;
    kinds = (P.kinds-is ∙ sym Q.kinds-is) i;
    cells = (P.cells_is ∙ sym Q.cells_is) i;
    facings = (P.facings-is ∙ sym Q.facings-is) i;
    values = (P.values-is ∙ sym Q.values-is) i;
  }
