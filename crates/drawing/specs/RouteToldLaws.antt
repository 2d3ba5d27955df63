-- `materialize_route` as it is told in numbers: its value as the code writes it, its promise by its cases, and that this determines everything.
use Rattle.std.specs.Prelude.{Result, Ok, Err, ◌≡◌, ℕ, zero, suc, ◌-◌, ◌≤◌, ◌<◌, ltb, length, replicate}
use Rattle.std.proofs.Math.Path.{refl}
use Rattle.std.proofs.Common.{sym, ◌∙◌, arith}
use Rattle.std.proofs.Math.Bool.{true, false}
use mathlib.Core.List.{List, ◌++◌}
use borrow.Author.Tests.{le-leb, lt-leb, lt-ltb, le-ltb}
use Rattle.basics.specs.Tests.{either, ask_less, never, and_right}
use Rattle.basics.specs.Lists.{every}
use Rattle.basics.specs.Promises.{Determines}
use Rattle.numbers.specs.Refusals.{done_number}
use Rattle.lent.specs.Lent.{Cleared, output_after}
use Rattle.room.specs.declared.Room.{Room}
use Rattle.room.specs.Units.{max_kind, kind_known}
use Rattle.routing.specs.declared.Refusal.{Refusal}
use Rattle.routing.specs.Answers.{refusal_number, Judgement}
use Rattle.drawing.specs.Answers.{judged, drawn_number, drawn_of, RoutePromise}
use Rattle.drawing.specs.PromiseLaws.{untouched, passes}
use Rattle.drawing.specs.Told.{short_refusal, route_value_count, route_values, drawn_told, RouteTold}

-- values that are cleared hold the one value of a drawn route
one-cleared : (n : ℕ) → route_value_count ≤ n → replicate n 0 ≡ route_values ++ replicate (n - route_value_count) 0
one-cleared zero h = absurd (omega arith)
one-cleared (suc n) h = let e : suc n - route_value_count ≡ n = omega arith in rw e

module _ {a : Result (Unit {0}) Refusal} (values : List ℕ) where
  pub drawn_told_lem : a ≡ Ok tt → route_value_count ≤ length values → {values' : List ℕ} → Cleared values values'
      → (done_number ≡ drawn_number a) × (values' ≡ output_after (drawn_number a) route_values values)
  drawn_told_lem e h z = (rw e, rw e (z ∙ one-cleared (length values) h))

  pub drawn_untold : (why : Refusal) → a ≡ Err why → {r : ℕ} → r ≡ refusal_number why
      → (r ≡ drawn_number a) × (values ≡ output_after (drawn_number a) route_values values)
  drawn_untold why e n = (rw e n, rw (e, untouched why))

-- ---- the promise

module _ (R : Room) (support : ℕ) (kinds path values : List ℕ) where
  pub route-short : length values < route_value_count → {r : ℕ} → r ≡ refusal_number (short_refusal R) → RouteTold R support kinds path values r kinds values
  unfolding drawn_told
  route-short h n = let e = lt-leb route_value_count (length values) h in
      record { number = rw e n; kinds-is = rw (e, untouched (short_refusal R)); values-is = rw (e, untouched (short_refusal R)) }

  pub route-told : route_value_count ≤ length values → {a : Result (Unit {0}) Refusal} {r : ℕ} {kinds' values' : List ℕ} → RoutePromise R support kinds path a kinds'
      → r ≡ drawn_number a → values' ≡ output_after (drawn_number a) route_values values → RouteTold R support kinds path values r kinds' values'
  unfolding drawn_told
  route-told h P n v = let e = le-leb route_value_count (length values) h in
      record { number = rw (e, ← P.answer) n; kinds-is = rw e P.kinds-is; values-is = rw (e, ← P.answer) v }

-- two results that keep the promise coincide
pub record RouteToldResult : Type 0 where
  pub number : ℕ
  pub kinds : List ℕ
  pub values : List ℕ

module _ (R : Room) (support : ℕ) (kinds path values : List ℕ) where
  abbrev pub KeepsRouteTold : RouteToldResult → Type 0
  KeepsRouteTold x = RouteTold R support kinds path values x.number x.kinds x.values

  pub coincide : Determines KeepsRouteTold
  coincide x y P Q = λ i. record {
    number = (P.number ∙ sym Q.number) i;
    kinds = (P.kinds-is ∙ sym Q.kinds-is) i;
    values = (P.values-is ∙ sym Q.values-is) i;
  }

-- ---- the support's kind as any number

-- a number that names no kind, as 32 bits may, is handed on as this one, which names none
abbrev pub no_kind : ℕ
no_kind = 255

abbrev pub kind_handed_on : ℕ → ℕ
kind_handed_on support = either (ltb support no_kind) support no_kind

-- an unknown kind draws nothing
unknown_unfit : (R : Room) (kinds path : List ℕ) → judged R true false kinds path ≡ Ok tt → ⊥
unknown_unfit R kinds path e = let c : false ≡ true = and_right (every kind_known kinds) false (passes e).codes in never (cc)

module _ (R : Room) (support other : ℕ) (kinds path : List ℕ) (s : kind_known support ≡ false) (o : kind_known other ≡ false) where
  pub unknown_alike : {a : Result (Unit {0}) Refusal} {kinds' : List ℕ} → RoutePromise R other kinds path a kinds' → RoutePromise R support kinds path a kinds'
  unfolding drawn_of
  unknown_alike P = by (judged R true false kinds path) refl P
    where
      by : (j : Judgement) → judged R true false kinds path ≡ j → {a : Result (Unit {0}) Refusal} {kinds' : List ℕ} → RoutePromise R other kinds path a kinds'
          → RoutePromise R support kinds path a kinds'
      by (Ok _) e Q = absurd (unknown_unfit R kinds path e)
      by (Err why) e Q = record {
        answer = rw (s, e) (rw (o, e) at Q.answer);
        kinds-is = rw (s, e, untouched why) (rw (o, e, untouched why) at Q.kinds-is);
      }

-- so that the promise holds of the number itself
pub handed_on : (R : Room) (support : ℕ) (kinds path : List ℕ) {kind : ℕ} → kind ≡ kind_handed_on support → {a : Result (Unit {0}) Refusal} {kinds' : List ℕ}
    → RoutePromise R kind kinds path a kinds' → RoutePromise R support kinds path a kinds'
handed_on R support kinds path {kind} k P =
    ask_less support no_kind
    (λ h. let e : kind ≡ support = k ∙ rw (lt-ltb support no_kind h) in rw e at P)
    (λ h. let e : kind ≡ no_kind = k ∙ rw (le-ltb support no_kind h) in unknown_alike R support no_kind kinds path (lt-leb support max_kind (omega arith)) refl (rw e at P))
