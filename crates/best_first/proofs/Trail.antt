-- The cells before the goal lead back to the start, in fewer steps than there are cells; and where none of them offers a lower cost, the steps add
-- up to the goal's cost.
use Rattle.std.specs.Prelude.{◌≡◌, refl, ◌⊎◌, ◌≢◌, List, [], ◌∷◌, ltb}
use Rattle.std.proofs.Math.Path.{ap}
use Rattle.std.proofs.Common.{◌∙◌, inl, inr, arith}
use Prim.Native.Nat.{ℕ, zero, suc, pred, ◌+◌, ◌*◌, ◌≤◌, ◌<◌, zero-le}
use Rattle.std.proofs.Math.Nat.{suc-mul, mul-le-mul_right}
use Rattle.std.proofs.Math.ListN.{get_or}
use borrow.Author.Tests.{ltb-true, lt-ltb, le-ltb}
use Rattle.basics.specs.Tests.{ask, ask_less}
use Rattle.basics.specs.Lists.{In}
use Rattle.basics.specs.Counts.{bit, bit-small}
use Rattle.basics.specs.Sums.{sum_below, sum_le, sum_same, sum_more, single, Single, there, elsewhere, at-single}
use Rattle.best_first.specs.Search.{Graph, Move, trace}
use Rattle.best_first.specs.Ways.{GraphStep, Way}
use Rattle.best_first.specs.Statements.{Lawful}
use Rattle.best_first.specs.ListsAfterSet.{in_reach}
use Rattle.best_first.proofs.Equations.{trace-start, trace-back}
use Rattle.best_first.proofs.Predecessors.{Linked, Link, Origin}

-- a is x, or before x on the way back
pub data Up (previous : List ℕ) (a : ℕ) : ℕ → Type 0 where
  here : {x : ℕ} → x ≡ a → Up previous a x
  further-up : {x y : ℕ} → get_or previous x 0 ≡ suc y → Up previous a y → Up previous a x

up_more : {previous : List ℕ} {a x : ℕ} (b : ℕ) → Up previous a x → get_or previous a 0 ≡ suc b → Up previous b x
up_more {previous} b (here e) f = further-up (ap (λ (n : ℕ). get_or previous n 0) e ∙ f) (here refl)
up_more b (further-up q r) f = further-up q (up_more b r f)

module _ {G : Graph} {ages known previous : List ℕ} {serial : ℕ} (L : Linked G ages known previous serial) where
  -- by cost, then by age
  weight : ℕ → ℕ
  weight v = get_or known v 0 * suc serial + get_or ages v 0

  link-falls : {v : ℕ} (k : Link G ages known previous v) → weight k.by < weight v
  unfolding weight
  link-falls {v} k =
      ask_less (get_or known k.by 0) (get_or known v 0)
      (λ h. omega (arith, mul-le-mul_right (suc serial) h, suc-mul (get_or known k.by 0) (suc serial), L.young k.by))
      (λ h.
      let e : get_or known k.by 0 ≡ get_or known v 0 = omega (arith, k.adds) in
      omega (arith, ap (λ (n : ℕ). n * suc serial) e, k.older e))

  -- how many cells have a lower weight than n
  below : ℕ → ℕ
  below n = sum_below G.size (λ x. bit (ltb (weight x) n))

  below_more : (v n : ℕ) → v < G.size → weight v < n → below (weight v) < below n
  unfolding below
  below_more v n h l = omega (arith, sum_more G.size v 1 (λ x. bit (ltb (weight x) (weight v))) (λ x. bit (ltb (weight x) n)) h (λ x _. at x (at-single v 1 x)))
    where
      at : (x : ℕ) → Single v 1 x → bit (ltb (weight x) (weight v)) + single v 1 x ≤ bit (ltb (weight x) n)
      at x (there e q) = rw (q, lt-ltb (weight x) n (omega (arith, ap weight e)), le-ltb (weight x) (weight v) (omega (arith, ap weight e))) (omega arith)
      at x (elsewhere d q) =
          ask (ltb (weight x) (weight v)) (λ t. rw (q, t, lt-ltb (weight x) n (omega (arith, ltb-true (weight x) (weight v) t))) (omega arith)) (λ f. rw (q, f) zero-le)

  below-size : (v : ℕ) → v < G.size → below (weight v) < G.size
  unfolding below
  below-size v h = omega (arith, below_more v (suc (weight v)) h (omega arith), sum_le G.size (λ x. bit (ltb (weight x) (suc (weight v)))) (λ x. 1) (λ x _. bit-small (ltb (weight x) (suc (weight v)))), sum_same G.size 1)

  module _
      (loose : (a : ℕ) → Up previous a G.goal → a ≢ G.goal → (m : Move) → In m (G.moves a) → get_or known m.to 0 ≤ get_or known a 0 + m.cost) where
    trail : (n v : ℕ) (rest : List ℕ) (r : ℕ) → below (weight v) < n → weight v ≤ weight G.goal → 0 < get_or known v 0 → Up previous v G.goal
        → Way G v rest G.goal r → get_or known v 0 + r ≡ get_or known G.goal 0 → Lawful G (trace n previous v rest) (pred (get_or known G.goal 0))
    trail zero v rest r f h p up W q = absurd (omega arith)
    trail (suc n) v rest r f h p up W q = go (L.link v p) (trail n)
      where
        go : Origin G previous v ⊎ Link G ages known previous v
            → ((v : ℕ) (rest : List ℕ) (r : ℕ) → below (weight v) < n → weight v ≤ weight G.goal → 0 < get_or known v 0 → Up previous v G.goal
            → Way G v rest G.goal r → get_or known v 0 + r ≡ get_or known G.goal 0 → Lawful G (trace n previous v rest) (pred (get_or known G.goal 0)))
            → Lawful G (trace (suc n) previous v rest) (pred (get_or known G.goal 0))
        go (inl o) ih =
            let e : r ≡ pred (get_or known G.goal 0) = omega (arith, ap (λ (x : ℕ). get_or known x 0) o.is-start, L.start-known) in
            record {
              rest = rest;
              begins = trace-start n previous v rest o.no_previous ∙ ap (λ (x : ℕ). x ∷ rest) o.is-start;
              way = rw (o.is-start, e) at W;
            }
        go (inr k) ih =
            let low : weight k.by < weight v = link-falls k in
            let by_in : k.by < G.size = omega (arith, in_reach known k.by k.is_known, L.known-long) in
            let by-up : Up previous k.by G.goal = up_more k.by up k.noted in
            let exact = loose k.by by-up (λ e. omega (arith, ap weight e)) k.move k.lawful in
            let T = ih k.by (v ∷ rest) (k.move.cost + r) (omega (arith, below_more k.by (weight v) by_in low)) (omega arith) k.is_known by-up
            (k.move.cost, r, unfold GraphStep in (k.move, k.lawful, k.leads-to, refl), W, refl)
            (omega (arith, k.adds, exact, ap (λ (x : ℕ). get_or known x 0) k.leads-to)) in
            record { rest = T.rest; begins = trace-back n previous v k.by rest k.noted ∙ T.begins; way = T.way }

    pub goal-trail : G.goal < G.size → 0 < get_or known G.goal 0 → Lawful G (trace G.size previous G.goal []) (pred (get_or known G.goal 0))
    goal-trail h p = trail G.size G.goal [] 0 (below-size G.goal h) (omega arith) p (here refl) (refl, refl) (omega arith)
