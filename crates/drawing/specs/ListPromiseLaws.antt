-- The promise of `insert_repeaters`, by its cases; and that it determines everything.
use Rattle.std.specs.Prelude.{Result, Ok, Err, ◌≡◌, List, ◌++◌, ℕ, ◌-◌, length}
use Rattle.std.proofs.Math.Path.{sym, ap}
use Rattle.std.proofs.Common.{◌∙◌}
use Rattle.std.proofs.Math.ListN.{replicate}
use Rattle.std.proofs.lemmas.List.{length-map}
use Rattle.basics.specs.Promises.{Determines}
use Rattle.room.specs.declared.Room.{Room}
use Rattle.routing.specs.declared.Refusal.{Refusal}
use Rattle.repeaters.specs.Repeaters.{path_cell}
use Rattle.drawing.specs.Drawing.{repeater_places, repeater_cells, repeater_facings, passage_facing}
use Rattle.drawing.specs.Answers.{listed_judged, listed_of, ListPromise}
use Rattle.drawing.specs.Listing.{AllListed}
use Rattle.drawing.specs.PromiseLaws.{untouched}

module _ (R : Room) (limit : ℕ) (kinds path cells facings : List ℕ) where
  pub listed_unfit : (why : Refusal) → listed_judged R kinds path cells facings ≡ Err why
      → ListPromise R limit kinds path cells facings (Err why) kinds cells facings
  unfolding listed_of
  listed_unfit why e = record { answer = rw e; kinds-is = rw (e, untouched why); cells_is = rw (e, untouched why); facings-is = rw (e, untouched why) }

  pub listed-fit : listed_judged R kinds path cells facings ≡ Ok tt → {count : ℕ} {kinds' cells' facings' : List ℕ}
      → AllListed R limit path kinds (length cells) (length facings) count kinds' cells' facings'
      → ListPromise R limit kinds path cells facings (Ok count) kinds' cells' facings'
  unfolding listed_of
  listed-fit e {count} A = record {
    answer = rw (e, A.many);
    kinds-is = rw e A.kinds-is;
    cells_is =
        rw e
        (A.cells_is ∙ ap (λ k. repeater_cells R limit path ++ replicate (length cells - k) 0) (A.many ∙ sym (length-map (repeater_places R limit path) (path_cell path))));
    facings-is =
        rw e
        (A.facings-is
        ∙ ap (λ k. repeater_facings R limit path ++ replicate (length facings - k) 0) (A.many ∙ sym (length-map (repeater_places R limit path) (passage_facing R path))));
  }

-- two results that keep the promise coincide: the answer, and every lent byte
pub record ListedResult : Type 0 where
  pub answer : Result ℕ Refusal
  pub kinds : List ℕ
  pub cells : List ℕ
  pub facings : List ℕ

module _ (R : Room) (limit : ℕ) (kinds path cells facings : List ℕ) where
  abbrev pub KeepsList : ListedResult → Type 0
  KeepsList x = ListPromise R limit kinds path cells facings x.answer x.kinds x.cells x.facings

  pub coincide : Determines KeepsList
  coincide x y P Q = λ i. record {
    answer = (P.answer ∙ sym Q.answer) i;
    kinds = (P.kinds-is ∙ sym Q.kinds-is) i;
    cells = (P.cells_is ∙ sym Q.cells_is) i;
    facings = (P.facings-is ∙ sym Q.facings-is) i;
  }
