-- The promise of `materialize_route`, by its cases; and that it determines everything.
use Rattle.std.specs.Prelude.{Result, Ok, Err, ◌≡◌, List, ℕ}
use Rattle.std.proofs.Common.{sym, ◌∙◌}
use Rattle.basics.specs.Promises.{Determines}
use Rattle.room.specs.declared.Room.{Room}
use Rattle.routing.specs.declared.Refusal.{Refusal}
use Rattle.drawing.specs.Drawing.{materialized}
use Rattle.drawing.specs.Answers.{drawn_judged, drawn_of, RoutePromise}
use Rattle.drawing.specs.PromiseLaws.{untouched}

module _ (R : Room) (support : ℕ) (kinds path : List ℕ) where
  pub drawn_unfit : (why : Refusal) → drawn_judged R support kinds path ≡ Err why → RoutePromise R support kinds path (Err why) kinds
  unfolding drawn_of
  drawn_unfit why e = record { answer = rw e; kinds-is = rw (e, untouched why) }

  pub drawn_fit : drawn_judged R support kinds path ≡ Ok tt → {kinds' : List ℕ} → kinds' ≡ materialized R support path kinds → RoutePromise R support kinds path (Ok tt) kinds'
  unfolding drawn_of
  drawn_fit e k = record { answer = rw e; kinds-is = rw e k }

-- two results that keep the promise coincide: the answer, and every byte of the room
pub record DrawnResult : Type 0 where
  pub answer : Result (Unit {0}) Refusal
  pub kinds : List ℕ

module _ (R : Room) (support : ℕ) (kinds path : List ℕ) where
  abbrev pub KeepsRoute : DrawnResult → Type 0
  KeepsRoute x = RoutePromise R support kinds path x.answer x.kinds

  pub coincide : Determines KeepsRoute
  coincide x y P Q = λ i. record { answer = (P.answer ∙ sym Q.answer) i; kinds = (P.kinds-is ∙ sym Q.kinds-is) i }
