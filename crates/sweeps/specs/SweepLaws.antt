-- Each lowering keeps what the sweeps keep, and lowers the sum of the known costs; so does the first state.
use Rattle.std.specs.Prelude.{◌≡◌, refl, Bool, true, false, List, [], ◌∷◌, ℕ, zero, suc, ◌+◌, ◌*◌, ◌≤◌, ◌<◌, ltb, length, get_or, set, replicate}
use Rattle.std.proofs.Common.{ap, ◌∙◌, inl, inr, arith, mul-suc, mul_comm, mul-le-mul_left, not-suc-le-zero, le_of_suc-le-suc, get_or-set_other}
use Rattle.basics.specs.Tests.{ask, never}
use Rattle.basics.specs.Lists.{In}
use Rattle.basics.specs.Counts.{times-most}
use Rattle.basics.specs.Zeros.{zeros}
use Rattle.best_first.specs.Search.{Graph, Move}
use Rattle.best_first.specs.Ways.{Sound}
use Rattle.best_first.specs.ListsAfterSet.{AfterStore, hit, miss, after, in_reach, nonzeros, nonzeros-none, nonzeros-new, nonzeros-old}
use Rattle.best_first.proofs.Equations.{Gain}
use Rattle.best_first.proofs.Predecessors.{Linked, to_in, not_itself, push-linked, start-placed, start-alone, first-linked}
use Rattle.sweeps.specs.Sweeps.{Grounded, known_sum, above_all, Progress}

-- ---- the sum falls

pub known_sum-falls : (top : ℕ) (l : List ℕ) (i x : ℕ) → i < length l → Gain (suc x) (get_or l i 0) → suc x < top → known_sum top (set l i (suc x)) < known_sum top l
unfolding known_sum
known_sum-falls top [] i x h g t = absurd (not-suc-le-zero h)
known_sum-falls top (zero ∷ l) zero x h g t = omega arith
known_sum-falls top (suc y ∷ l) zero x h (inl e) t = absurd (omega arith)
known_sum-falls top (suc y ∷ l) zero x h (inr e) t = omega arith
known_sum-falls top (zero ∷ l) (suc i) x h g t = omega (arith, known_sum-falls top l i x (le_of_suc-le-suc h) g t)
known_sum-falls top (suc y ∷ l) (suc i) x h g t = omega (arith, known_sum-falls top l i x (le_of_suc-le-suc h) g t)

-- offers one after another
module _ {G : Graph} {dearest : ℕ} where
  pub progress-none : {k : List ℕ} → Progress G dearest false k k
  progress-none = record { falls = λ e. never (cc); same = λ e. refl }

  pub progress-both : {b : Bool} {k l m : List ℕ} → Progress G dearest b k l → Progress G dearest true l m → Progress G dearest true k m
  progress-both {b} {k} {l} {m} p q = record {
    falls = λ e. ask b (λ t. omega (arith, p.falls t, q.falls refl)) (λ f. omega (arith, ap (known_sum (above_all G dearest)) (p.same f), q.falls refl));
    same = λ e. never (cc);
  }

  pub progress-still : {b : Bool} {k l m : List ℕ} → Progress G dearest b k l → Progress G dearest false l m → Progress G dearest b k m
  progress-still p q = record {
    falls = λ e. omega (arith, p.falls e, ap (known_sum (above_all G dearest)) (q.same refl));
    same = λ e. q.same refl ∙ p.same e;
  }

module _ {G : Graph} {degree dearest : ℕ} (S : Sound G degree dearest) where
  -- ---- known costs are in range

  module _ {known previous : List ℕ} (K : Grounded G dearest known previous) where
    pub kept-most : (v : ℕ) → 0 < get_or known v 0 → get_or known v 0 + dearest ≤ suc (G.size * dearest)
    kept-most v p =
        omega (arith, K.low v p, mul-le-mul_left dearest (times-most (ltb 0) known), ap (λ n. dearest * n) K.linked.known-long, mul_comm dearest G.size)

    -- ---- a lowering

    module _ (u : ℕ) (m : Move) (lawful : In m (G.moves u)) (u-known : 0 < get_or known u 0) (x : ℕ) (is_x : suc x ≡ get_or known u 0 + m.cost)
        (gain : Gain (suc x) (get_or known m.to 0)) where
      L : Linked G K.ages known previous K.serial
      L = K.linked

      placed : m.to < length known
      placed = to_in S L u m lawful u-known (suc x) is_x gain

      at : (v : ℕ) → AfterStore known m.to (suc x) v
      at v = after known m.to (suc x) v placed

      more : (nonzeros known ≤ nonzeros (set known m.to (suc x))) × (suc x + dearest ≤ suc (dearest * nonzeros (set known m.to (suc x))))
      more = go gain
        where
          go : Gain (suc x) (get_or known m.to 0)
              → (nonzeros known ≤ nonzeros (set known m.to (suc x))) × (suc x + dearest ≤ suc (dearest * nonzeros (set known m.to (suc x))))
          go (inl e) = rw (nonzeros-new known m.to x placed e, mul-suc) (omega (arith, K.low u u-known, S.dear u m lawful))
          go (inr l) = rw (nonzeros-old known m.to x (omega arith)) (omega (arith, K.low m.to (omega arith)))

      pub lower-kept : Grounded G dearest (set known m.to (suc x)) (set previous m.to (suc u))
      lower-kept = record {
        ages = set K.ages m.to (suc K.serial);
        serial = suc K.serial;
        linked = push-linked S L u m lawful u-known (suc x) is_x gain;
        low = λ v p. low v p (at v);
        previous_in = λ v. previous-at v (after previous m.to (suc u) v (omega (arith, placed, L.known-long, L.previous-long)));
      }
        where
          low : (v : ℕ) → 0 < get_or (set known m.to (suc x)) v 0 → AfterStore known m.to (suc x) v
              → get_or (set known m.to (suc x)) v 0 + dearest ≤ suc (dearest * nonzeros (set known m.to (suc x)))
          low v p (hit e q) = omega (arith, more)
          low v p (miss n q) = omega (arith, K.low v (omega arith), mul-le-mul_left dearest more.0)

          previous-at : (v : ℕ) → AfterStore previous m.to (suc u) v → get_or (set previous m.to (suc u)) v 0 ≤ G.size
          previous-at v (hit e q) = omega (arith, in_reach known u u-known, L.known-long)
          previous-at v (miss n q) = omega (arith, K.previous_in v)

      -- the cell whose moves are tried gets no cheaper by them
      pub lower-stays : get_or (set known m.to (suc x)) u 0 ≡ get_or known u 0
      lower-stays = get_or-set_other known m.to u (suc x) 0 (not_itself S L u m lawful u-known (suc x) is_x gain)

      pub lower-falls : Progress G dearest true known (set known m.to (suc x))
      lower-falls = record { same = λ e. never (cc); falls = λ e. known_sum-falls (above_all G dearest) known m.to x placed gain (omega (arith, kept-most u u-known, S.dear u m lawful)) }

  -- ---- the first state: the start is known at cost 0

  pub first-kept : Grounded G dearest (set (replicate G.size 0) G.start 1) (replicate G.size 0)
  first-kept = record {
    ages = replicate G.size 0;
    serial = 0;
    linked = first-linked S;
    low = λ v p. rw (one, mul-suc) (omega (arith, start-alone S v p));
    previous_in = λ v. omega (arith, zeros G.size v);
  }
    where
      one : nonzeros (set (replicate G.size 0) G.start 1) ≡ 1
      one = nonzeros-new (replicate G.size 0) G.start 0 (start-placed S) (zeros G.size G.start) ∙ ap suc (nonzeros-none G.size)
