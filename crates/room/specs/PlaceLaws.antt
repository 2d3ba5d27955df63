-- Laws of places: of two, and of the first number that passes a test.
use Rattle.std.specs.Prelude.{◌≡◌, Bool, false, Option, Some, None}
use Rattle.std.proofs.Math.Path.{refl}
use Rattle.std.proofs.Common.{◌∙◌, arith}
use Rattle.std.proofs.Math.Bool.{true}
use Prim.Native.Nat.{ℕ, zero, suc, ◌<◌}
use Rattle.basics.specs.Tests.{ask_same, never}
use Rattle.room.specs.Room.{in_or_out, or_else, first_below}
use Rattle.room.specs.RoomLaws.{inside-passed}

pub or_none : (a b : Option ℕ) → or_else a b ≡ None → (a ≡ None) × (b ≡ None)
or_none (Some v) b e = never (cc)
or_none None b e = (refl, e)

pub out-failed : (b : Bool) (n : ℕ) → in_or_out b n ≡ None → b ≡ false
out-failed true n e = never (cc)
out-failed false n e = refl

module _ (test : ℕ → Bool) where
  pub first-none : (n : ℕ) → ((v : ℕ) → v < n → test v ≡ false) → first_below n test ≡ None
  unfolding first_below
  first-none zero f = refl
  first-none (suc n) f = rw (first-none n (λ v h. f v (omega arith)), f n (omega arith))

  pub first-is : (n w : ℕ) → w < n → test w ≡ true → ((v : ℕ) → v < w → test v ≡ false) → first_below n test ≡ Some w
  unfolding first_below
  first-is zero w h t f = absurd (omega arith)
  first-is (suc n) w h t f =
      ask_same w n
      (λ e. let t' : test n ≡ true = rw e at t in rw (first-none n (λ v l. f v (omega arith)), t', e))
      (λ d. rw (first-is n w (omega (arith, d)) t f))

  -- it passes, and it is below the bound
  pub first-passed : (n v : ℕ) → first_below n test ≡ Some v → (v < n) × (test v ≡ true)
  unfolding first_below
  first-passed zero v e = never (cc)
  first-passed (suc n) v e = go (first_below n test) refl e (first-passed n)
    where
      go : (place : Option ℕ) → first_below n test ≡ place → or_else place (in_or_out (test n) n) ≡ Some v → ((u : ℕ) → first_below n test ≡ Some u → (u < n) × (test u ≡ true))
          → (v < suc n) × (test v ≡ true)
      go (Some u) w q below = let b = below v (w ∙ q) in (omega (arith, b.0), b.1)
      go None w q below = let p = inside-passed (test n) n v q in (omega (arith, p.0), rw (← p.0) p.1)

  -- and where there is none, none passes
  pub none_first : (n : ℕ) → first_below n test ≡ None → (v : ℕ) → v < n → test v ≡ false
  unfolding first_below
  none_first zero e v h = absurd (omega arith)
  none_first (suc n) e v h =
      let both = or_none (first_below n test) (in_or_out (test n) n) e in
      ask_same v n (λ q. rw q (out-failed (test n) n both.1)) (λ d. none_first n both.0 v (omega (arith, d)))
