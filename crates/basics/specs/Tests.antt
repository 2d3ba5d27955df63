-- Tests: a choice by a Bool, a test asked with its outcome, two numbers compared, a test that a function makes, what a conjunction says of its
-- parts, and what follows where two different constructors would be equal.
use Rattle.std.specs.Prelude.{◌≡◌, refl, ◌≢◌, Bool, true, false, not, ◌&&◌, ◌||◌, ℕ, ◌≤◌, ◌<◌, eqb, ltb}
use Rattle.std.proofs.Common.{sym, ◌∙◌, arith, eqb-true, leb-true, ltb-true, ltb-false}
use Rattle.std.proofs.lemmas.Bool.{eqb-false, not-true, not-false}

abbrev pub either {ℓ} : {X : Type ℓ} → Bool → X → X → X
either true x y = x
either false x y = y

pub either_same {ℓ} : {X : Type ℓ} (b : Bool) (x : X) → either b x x ≡ x
either_same true x = refl
either_same false x = refl

-- a test is passed or not, with the fact
pub ask {ℓ} : {X : Type ℓ} (b : Bool) → (b ≡ true → X) → (b ≡ false → X) → X
ask true f g = f refl
ask false f g = g refl

-- two numbers are the same or not, and one is less than the other or not, with the fact
pub ask_same {ℓ} : {X : Type ℓ} (a b : ℕ) → (a ≡ b → X) → (a ≢ b → X) → X
ask_same a b f g = ask (eqb a b) (λ t. f (eqb-true a b t)) (λ t. g (eqb-false a b t))

pub ask_less {ℓ} : {X : Type ℓ} (a b : ℕ) → (a < b → X) → (b ≤ a → X) → X
ask_less a b f g = ask (ltb a b) (λ t. f (ltb-true a b t)) (λ t. g (ltb-false a b t))

-- a test that a function makes, and its result turned round
module _ {r a : Bool} (e : r ≡ a) where
  pub test_fails : not r ≡ true → a ≡ false
  test_fails n = sym e ∙ not-true r n

  pub test-passes : not r ≡ false → a ≡ true
  test-passes n = sym e ∙ not-false r n

pub and_left : (a b : Bool) → a && b ≡ true → a ≡ true
and_left true b e = refl
and_left false b e = e

pub and_right : (a b : Bool) → a && b ≡ true → b ≡ true
and_right true b e = e
and_right false b e = cc

pub and_both : {a b : Bool} → a ≡ true → b ≡ true → a && b ≡ true
and_both p q = rw (p, q)

-- what a conjunction of tests says of numbers
pub ruleset passed = (and_left, and_right, leb-true, ltb-true, eqb-true)

-- of two tests of which one passes, the first where the second does not
pub or_left : (a b : Bool) → a || b ≡ true → b ≡ false → a ≡ true
or_left true b e f = refl
or_left false b e f = cc

-- two different constructors are never equal: `never (cc)`, as `cc` shows that 0 would be 1
pub never {ℓ} : {X : Type ℓ} → ◌≡◌ {A = ℕ} 0 1 → X
never e = absurd (omega arith)
