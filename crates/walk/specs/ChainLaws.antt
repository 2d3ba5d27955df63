-- Chains put together, what they keep, and their cells by place.
use Rattle.std.specs.Prelude.{◌≡◌, refl, ◌≢◌, List, [], ◌∷◌, ◌++◌, ℕ, zero, suc, ◌≤◌, ◌<◌, length, get_or}
use Rattle.std.proofs.Common.{le_of_suc-le-suc, not-suc-le-zero}
use Rattle.basics.specs.Lists.{In, in_at}
use Rattle.walk.specs.Chains.{Chain, Chained, NoneTwice}

module _ (next : ℕ → List ℕ) where
  pub chain_append : (u : ℕ) (l : List ℕ) (v : ℕ) (m : List ℕ) (w : ℕ) → Chain next u l v → Chain next v m w → Chain next u (l ++ m) w
  chain_append u [] v m w c d = rw c d
  chain_append u (x ∷ l) v m w c d = (c.0, chain_append x l v m w c.1 d)

  pub chained-here : (u : ℕ) → Chained next u u
  chained-here u = record { cells = []; chain = refl }

  pub chained-step : (u v : ℕ) → In v (next u) → Chained next u v
  chained-step u v i = record { cells = v ∷ []; chain = (i, refl) }

  pub chained-on : (u v w : ℕ) → Chained next u v → Chained next v w → Chained next u w
  chained-on u v w a b = record { cells = a.cells ++ b.cells; chain = chain_append u a.cells v b.cells w a.chain b.chain }

  -- what is closed under steps is closed under chains
  pub chain-closed : (P : ℕ → Type 0) → ((u v : ℕ) → P u → In v (next u) → P v) → (u : ℕ) (l : List ℕ) (v : ℕ) → Chain next u l v → P u → P v
  chain-closed P step u [] v c p = rw c at p
  chain-closed P step u (x ∷ l) v c p = chain-closed P step x l v c.1 (step u x p c.0)

  -- ---- the cells of a chain by their places

  pub chain-last : (u : ℕ) (l : List ℕ) (v : ℕ) → Chain next u l v → get_or (u ∷ l) (length l) 0 ≡ v
  chain-last u [] v c = c
  chain-last u (x ∷ l) v c = chain-last x l v c.1

  pub chain-step-at : (u : ℕ) (l : List ℕ) (v : ℕ) → Chain next u l v → (i : ℕ) → i < length l → In (get_or (u ∷ l) (suc i) 0) (next (get_or (u ∷ l) i 0))
  chain-step-at u [] v c i h = absurd (not-suc-le-zero h)
  chain-step-at u (x ∷ l) v c zero h = c.0
  chain-step-at u (x ∷ l) v c (suc i) h = chain-step-at x l v c.1 i (le_of_suc-le-suc h)

-- each cell of a chain has what the first has and what steps keep
pub chain-all : (next : ℕ → List ℕ) (P : ℕ → Type 0) → ((u v : ℕ) → P u → In v (next u) → P v) → (u : ℕ) (l : List ℕ) (v : ℕ) → Chain next u l v → P u
    → (i : ℕ) → i ≤ length l → P (get_or (u ∷ l) i 0)
chain-all next P step u l v c p zero h = p
chain-all next P step u [] v c p (suc i) h = absurd (not-suc-le-zero h)
chain-all next P step u (x ∷ l) v c p (suc i) h = chain-all next P step x l v c.1 (step u x p c.0) i (le_of_suc-le-suc h)

pub none-twice-at : (l : List ℕ) → NoneTwice l → (i j : ℕ) → i < j → j < length l → get_or l i 0 ≢ get_or l j 0
none-twice-at [] d i j h k e = not-suc-le-zero k
none-twice-at (x ∷ xs) d i zero h k e = not-suc-le-zero h
none-twice-at (x ∷ xs) d zero (suc j) h k e = d.0 (rw e (in_at xs j 0 (le_of_suc-le-suc k)))
none-twice-at (x ∷ xs) d (suc i) (suc j) h k e = none-twice-at xs d.1 i j (le_of_suc-le-suc h) (le_of_suc-le-suc k) e
