-- Laws of tables, and of the loop that writes one.
use Rattle.std.specs.Prelude.{◌≡◌, refl, List, ℕ, zero, suc, ◌+◌, ◌≤◌, ◌<◌, length, get_or, set, replicate}
use Rattle.std.proofs.Common.{sym, ap, ◌∙◌, le_of_suc-le-suc, not-suc-le-zero, arith, length-set, ext_get_or, get_or-set_other}
use Rattle.basics.specs.Tests.{ask_less}
use Rattle.basics.specs.Lists.{front-written}
use Rattle.basics.specs.Zeros.{zeros, zeros-long}
use Rattle.flood.specs.Walls.{tabled}
use Rattle.flood.specs.Flooding.{Written}

pub tabled-long : (n : ℕ) (f : ℕ → ℕ) → length (tabled n f) ≡ n
unfolding tabled
tabled-long zero f = refl
tabled-long (suc n) f = ap suc (tabled-long n (λ k. f (suc k)))

pub tabled-at : (n : ℕ) (f : ℕ → ℕ) (k : ℕ) → k < n → get_or (tabled n f) k 0 ≡ f k
unfolding tabled
tabled-at zero f k h = absurd (not-suc-le-zero h)
tabled-at (suc n) f zero h = refl
tabled-at (suc n) f (suc k) h = tabled-at n (λ j. f (suc j)) k (le_of_suc-le-suc h)

pub is-tabled : (n : ℕ) (f : ℕ → ℕ) (l : List ℕ) → length l ≡ n → ((k : ℕ) → k < n → get_or l k 0 ≡ f k) → l ≡ tabled n f
is-tabled n f l e s = ext_get_or 0 l (tabled n f) (e ∙ sym (tabled-long n f)) (λ k h. s k (omega (arith, e)) ∙ sym (tabled-at n f k (omega (arith, e))))

-- functions that agree below n make one table
pub tabled-same : (n : ℕ) (f g : ℕ → ℕ) → ((k : ℕ) → k < n → f k ≡ g k) → tabled n f ≡ tabled n g
tabled-same n f g same = is-tabled n g (tabled n f) (tabled-long n f) (λ k h. tabled-at n f k h ∙ same k h)

module _ (f : ℕ → ℕ) {n : ℕ} {l : List ℕ} where
  pub written_none : l ≡ replicate n 0 → Written f n l 0
  written_none e = record {
    long = zeros-long e;
    within = omega arith;
    front = λ i h. absurd (omega arith);
    behind = λ i h. ap (λ (m : List ℕ). get_or m i 0) e ∙ zeros n i;
  }

  pub written_next : {k : ℕ} → Written f n l k → k < n → (x : ℕ) → x ≡ f k → Written f n (set l k x) (k + 1)
  written_next {k} W h x e = record {
    long = length-set l k x ∙ W.long;
    within = omega arith;
    front = front-written f l (omega (arith, W.long)) e W.front;
    behind = λ i q. get_or-set_other l k i x 0 (λ d. omega (arith, d)) ∙ W.behind i (omega arith);
  }

  -- what f has as 0 stands there already
  pub written_skip : {k : ℕ} → Written f n l k → (m : ℕ) → k ≤ m → m ≤ n → ((i : ℕ) → k ≤ i → i < m → f i ≡ 0) → Written f n l m
  written_skip {k} W m h q zero-there = record {
    long = W.long;
    within = q;
    front = λ i b. ask_less i k (λ a. W.front i a) (λ a. W.behind i a ∙ sym (zero-there i a b));
    behind = λ i b. W.behind i (omega arith);
  }

  pub written_all : {k : ℕ} → Written f n l k → n ≤ k → l ≡ tabled n f
  written_all W h = is-tabled n f l W.long (λ i q. W.front i (omega arith))
