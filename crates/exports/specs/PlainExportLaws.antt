-- The values of the plain engine's answer, written or kept; and what the promise of the exported plain engine determines: everything but which of the
-- cheapest paths is answered, and so its length.
use Rattle.std.specs.Prelude.{◌≡◌, refl, ◌≢◌, true, false, List, [], ◌∷◌, ◌++◌, ℕ, zero, suc, ◌-◌, ◌≤◌, set, replicate, Ok, Err}
use Rattle.std.proofs.Common.{sym, ap, ◌∙◌, arith}
use Rattle.basics.specs.Tests.{ask}
use Rattle.lent.specs.Lent.{touches, filled, output_after}
use Rattle.routing.specs.Answers.{Input}
use Rattle.plain.specs.Answers.{PlainAnswer}
use Rattle.plain.specs.declared.PlainUnrouted.TheVariants.{Refused, NotRouteable, NoRoute}
use Rattle.plain.specs.declared.PlainRoute.{PlainRoute}
use Rattle.plain.specs.Answers.{number_of, detail_of, route_cost}
use Rattle.plain.specs.PromiseLaws as engine
use Rattle.exports.specs.PlainExport.{plain_value_count, plain_route_of, plain_values, PlainExported, plain-short, plain-told}

-- the values of an answer whose number touches memory; the others leave them as they are
module _ (a : PlainAnswer) (values : List ℕ) {number : ℕ} (n : number ≡ number_of a) where
  pub plain-written : {detail : ℕ} {route : PlainRoute} {values' : List ℕ} → touches number ≡ true → detail ≡ detail_of a → route ≡ plain_route_of a
      → values' ≡ filled (detail ∷ route.length ∷ route.cost.0 ∷ []) values
      → values' ≡ output_after (number_of a) (plain_values a) values
  plain-written t d r w = let e = rw n at t in w ∙ rw (d, r, e)

  pub plain-kept : touches number ≡ false → values ≡ output_after (number_of a) (plain_values a) values
  plain-kept f = let e = rw n at f in rw e

-- ---- two results that keep the promise agree

pub record PlainResult : Type 0 where
  pub number : ℕ
  pub path : List ℕ
  pub known : List ℕ
  pub previous : List ℕ
  pub classes : List ℕ
  pub values : List ℕ

-- in all but a route's path and its length, which is the second value
pub record PlainAgree (x y : PlainResult) : Type 0 where
  pub number : x.number ≡ y.number
  pub known : x.known ≡ y.known
  pub previous : x.previous ≡ y.previous
  pub classes : x.classes ≡ y.classes
  pub values : set x.values 1 0 ≡ set y.values 1 0
  pub no_route : x.number ≢ 0 → (x.path ≡ y.path) × (x.values ≡ y.values)

cost-told : (a : PlainAnswer) → (plain_route_of a).cost.0 ≡ route_cost a
cost-told (Ok r) = refl
cost-told (Err e) = refl

values_agree : (a b : PlainAnswer) (values : List ℕ) → number_of a ≡ number_of b → detail_of a ≡ detail_of b → route_cost a ≡ route_cost b
    → set (output_after (number_of a) (plain_values a) values) 1 0 ≡ set (output_after (number_of b) (plain_values b) values) 1 0
values_agree a b values n d c =
    ask (touches (number_of b)) (λ t. rw (n, t, d, cost-told a, cost-told b, c)) (λ f. rw (n, f))

abbrev result_of : PlainAnswer → PlainResult → engine.Result
result_of r x = record { answer = r; path = x.path; known = x.known; previous = x.previous; classes = x.classes }

module _ (I : Input) (path known previous classes values : List ℕ) where
  abbrev pub PlainKeeps : PlainResult → Type 0
  PlainKeeps x = PlainExported I path known previous classes values x.number x.path x.known x.previous x.classes x.values

  pub plain-agree : (x y : PlainResult) → PlainKeeps x → PlainKeeps y → PlainAgree x y
  plain-agree x y (plain-short h n p k q c v) (plain-told j a P m w) = absurd (omega arith)
  plain-agree x y (plain-told j a P m w) (plain-short h n p k q c v) = absurd (omega arith)
  plain-agree x y (plain-short h n p k q c v) (plain-short h' n' p' k' q' c' v') = record {
    number = n ∙ sym n';
    known = k ∙ sym k';
    previous = q ∙ sym q';
    classes = c ∙ sym c';
    values = ap (λ l. set l 1 0) (v ∙ sym v');
    no_route = λ _. (p ∙ sym p', v ∙ sym v');
  }
  plain-agree x y (plain-told h a P n v) (plain-told h' b Q n' v') =
      let A = engine.agree I path known previous classes (result_of a x) (result_of b y) P Q in
      record {
        number = n ∙ A.number ∙ sym n';
        known = A.known;
        previous = A.previous;
        classes = A.classes;
        values = ap (λ l. set l 1 0) v ∙ values_agree a b values A.number A.detail A.cost ∙ sym (ap (λ l. set l 1 0) v');
        no_route = λ d.
            let e = A.no_route (λ z. d (n ∙ z)) in
            (e.1, v ∙ ap (λ r. output_after (number_of r) (plain_values r) values) e.0 ∙ sym v');
      }
