-- Few sweeps are made: after k of them every way of k steps is beaten, a known cost is never below that of some way of fewer steps than there are
-- known cells, so a sweep that changes something is not the last that the known cells allow.
use Rattle.std.specs.Prelude.{◌≡◌, refl, ◌⊎◌, Bool, true, ◌&&◌, List, [], ◌∷◌, ◌++◌, length}
use Rattle.std.proofs.Common.{sym, ◌∙◌, inl, inr, arith, eq-zero-or-pos, ext_get_or}
use Rattle.std.proofs.Math.Path.{ap}
use Prim.Native.Nat.{ℕ, zero, suc, ◌+◌, ◌*◌, ◌≤◌, ◌<◌, zero-le}
use Rattle.std.proofs.Math.Nat.{suc-mul, mul-le-mul_right}
use Rattle.std.proofs.Math.Dec.{ltb}
use Rattle.std.proofs.Math.ListN.{get_or, length-append}
use borrow.Author.Tests.{ltb-true, lt-ltb, le-ltb}
use Rattle.basics.specs.Tests.{ask, ask_less}
use Rattle.basics.specs.Lists.{In}
use Rattle.basics.specs.Counts.{bit, bit-small, times}
use Rattle.basics.specs.Sums.{sum_below, sum_le, sum_more, single, Single, there, elsewhere, at-single}
use Rattle.best_first.specs.Search.{Graph, Move}
use Rattle.best_first.specs.Ways.{GraphStep, Way}
use Rattle.best_first.specs.ListsAfterSet.{in_reach}
use Rattle.best_first.proofs.Predecessors.{Linked, Link, Origin}
use Rattle.sweeps.specs.Sweeps.{Grounded, BeatenBy, NoHigher, TriedFrom, Progress, known_sum, above_all}

-- ---- ways by their last step

record LastStep (G : Graph) (u : ℕ) (l : List ℕ) (t d : ℕ) : Type 0 where
  first : List ℕ
  by : ℕ
  cost : ℕ
  step : ℕ
  shorter : length l ≡ suc (length first)
  leads : Way G u first by cost
  last : GraphStep G by t step
  adds : d ≡ cost + step

last_step : (G : Graph) (u v : ℕ) (l : List ℕ) (t d : ℕ) → Way G u (v ∷ l) t d → LastStep G u (v ∷ l) t d
last_step G u v [] t d W = record {
  first = [];
  by = u;
  cost = 0;
  step = W.0;
  shorter = refl;
  leads = (refl, refl);
  last = rw W.3.0 at W.2;
  adds = omega (arith, W.4, W.3.1);
}
last_step G u v (w ∷ l) t d W =
    let r = last_step G v w l t W.1 W.3 in
    record {
      first = v ∷ r.first;
      by = r.by;
      cost = W.0 + r.cost;
      step = r.step;
      shorter = omega (arith, r.shorter);
      leads = (W.0, r.cost, W.2, r.leads, refl);
      last = r.last;
      adds = omega (arith, W.4, r.adds);
    }

one_more : (G : Graph) (l : List ℕ) (u w d t c : ℕ) → Way G u l w d → GraphStep G w t c → Way G u (l ++ (t ∷ [])) t (d + c)
one_more G [] u w d t c W s = (c, 0, rw (sym W.0) at s, (refl, refl), omega (arith, W.1))
one_more G (v ∷ l) u w d t c W s = (W.0, W.1 + c, W.2, one_more G l v w W.1 t c W.3 s, omega (arith, W.4))

-- ---- after one more sweep every way of one more step is beaten

pub beaten-more : (G : Graph) (k : ℕ) (known known' : List ℕ) → NoHigher known known' → ((u : ℕ) (m : Move) → 0 < get_or known u 0 → In m (G.moves u) → TriedFrom known known' u m)
    → BeatenBy G k known → BeatenBy G (suc k) known'
unfolding GraphStep
beaten-more G k known known' low tried B [] t d h W = let b = B [] t d (omega arith) W in let c = low t b.0 in (c.0, omega (arith, c, b))
beaten-more G k known known' low tried B (v ∷ l) t d h W =
    let r = last_step G G.start v l t d W in
    let b = B r.first r.by r.cost (omega (arith, r.shorter)) r.leads in
    let o = tried r.by r.last.0 b.0 r.last.1 in
    (rw r.last.2 at o.is_known, omega (arith, o.cheap, b, r.last.3, r.adds, ap (λ n. get_or known' n 0) r.last.2))

-- ---- the known cells counted by number

sum-front : (n : ℕ) (f : ℕ → ℕ) → sum_below (suc n) f ≡ f 0 + sum_below n (λ x. f (suc x))
unfolding sum_below
sum-front zero f = omega arith
sum-front (suc n) f = omega (arith, sum-front n f)

times-sum : (p : ℕ → Bool) (l : List ℕ) → times p l ≡ sum_below (length l) (λ x. bit (p (get_or l x 0)))
unfolding times sum_below
times-sum p [] = refl
times-sum p (x ∷ l) = ap (λ n. bit (p x) + n) (times-sum p l) ∙ sym (sum-front (length l) (λ y. bit (p (get_or (x ∷ l) y 0))))

-- where a cell is known, some are
pub some_known : (l : List ℕ) (v : ℕ) → 0 < get_or l v 0 → 0 < times (ltb 0) l
unfolding times
some_known [] v h = absurd (omega arith)
some_known (x ∷ l) zero h = rw (lt-ltb 0 x h) (omega arith)
some_known (x ∷ l) (suc v) h = omega (arith, some_known l v h)

-- ---- a known cost is not below that of some way

module _ {G : Graph} {ages known previous : List ℕ} {serial : ℕ} (L : Linked G ages known previous serial) where
  -- by cost, then by age
  weight : ℕ → ℕ
  weight v = get_or known v 0 * suc serial + get_or ages v 0

  link-falls : {v : ℕ} (k : Link G ages known previous v) → weight k.by < weight v
  unfolding weight
  link-falls {v} k =
      ask_less (get_or known k.by 0) (get_or known v 0)
      (λ h. omega (arith, mul-le-mul_right (suc serial) h, suc-mul (get_or known k.by 0) (suc serial), L.young k.by))
      (λ h.
      let e : get_or known k.by 0 ≡ get_or known v 0 = omega (arith, k.adds) in
      omega (arith, ap (λ (n : ℕ). n * suc serial) e, k.older e))

  -- how many known cells have a lower weight than n
  lighter : ℕ → ℕ
  lighter n = sum_below G.size (λ x. bit (ltb 0 (get_or known x 0) && ltb (weight x) n))

  lighter-more : (v n : ℕ) → v < G.size → 0 < get_or known v 0 → weight v < n → lighter (weight v) < lighter n
  unfolding lighter
  lighter-more v n h p l =
      omega (arith, sum_more G.size v 1 (λ x. bit (ltb 0 (get_or known x 0) && ltb (weight x) (weight v))) (λ x. bit (ltb 0 (get_or known x 0) && ltb (weight x) n)) h (λ x _. at x (at-single v 1 x)))
    where
      at : (x : ℕ) → Single v 1 x → bit (ltb 0 (get_or known x 0) && ltb (weight x) (weight v)) + single v 1 x ≤ bit (ltb 0 (get_or known x 0) && ltb (weight x) n)
      at x (there e q) =
          let k : 0 < get_or known x 0 = rw e at p in
          rw (q, lt-ltb 0 (get_or known x 0) k, lt-ltb (weight x) n (omega (arith, ap weight e)), le-ltb (weight x) (weight v) (omega (arith, ap weight e))) (omega arith)
      at x (elsewhere d q) =
          ask (ltb 0 (get_or known x 0))
          (λ a. ask (ltb (weight x) (weight v))
          (λ t. rw (q, a, t, lt-ltb (weight x) n (omega (arith, ltb-true (weight x) (weight v) t))) (omega arith))
          (λ f. rw (q, a, f) zero-le))
          (λ a. rw (q, a) zero-le)

  lighter-few : (v : ℕ) → v < G.size → 0 < get_or known v 0 → lighter (weight v) < times (ltb 0) known
  unfolding lighter
  lighter-few v h p = omega (arith, lighter-more v (suc (weight v)) h p (omega arith), most (suc (weight v)), ap (λ n. sum_below n (λ x. bit (ltb 0 (get_or known x 0)))) L.known-long, times-sum (ltb 0) known)
    where
      most : (n : ℕ) → lighter n ≤ sum_below G.size (λ x. bit (ltb 0 (get_or known x 0)))
      most n = sum_le G.size (λ x. bit (ltb 0 (get_or known x 0) && ltb (weight x) n)) (λ x. bit (ltb 0 (get_or known x 0)))
          (λ x _. ask (ltb 0 (get_or known x 0)) (λ a. rw a (bit-small (ltb (weight x) n))) (λ a. rw a zero-le))

  record ShortWay (v : ℕ) : Type 0 where
    cells : List ℕ
    cost : ℕ
    leads : Way G G.start cells v cost
    cheap : suc cost ≤ get_or known v 0
    short : length cells ≤ lighter (weight v)

  short-way : (n v : ℕ) → lighter (weight v) < n → 0 < get_or known v 0 → ShortWay v
  short-way zero v h p = absurd (omega arith)
  short-way (suc n) v h p = go (L.link v p) (short-way n)
    where
      go : Origin G previous v ⊎ Link G ages known previous v → ((w : ℕ) → lighter (weight w) < n → 0 < get_or known w 0 → ShortWay w) → ShortWay v
      go (inl o) ih = record { cells = []; cost = 0; leads = (sym o.is-start, refl); cheap = p; short = zero-le }
      go (inr k) ih =
          let by_in : k.by < G.size = omega (arith, in_reach known k.by k.is_known, L.known-long) in
          let less : lighter (weight k.by) < lighter (weight v) = lighter-more k.by (weight v) by_in k.is_known (link-falls k) in
          let r = ih k.by (omega arith) k.is_known in
          record {
            cells = r.cells ++ (v ∷ []);
            cost = r.cost + k.move.cost;
            leads = one_more G r.cells G.start k.by r.cost v k.move.cost r.leads (unfold GraphStep in (k.move, k.lawful, k.leads-to, refl));
            cheap = omega (arith, r.cheap, k.adds);
            short = omega (arith, r.short, less, length-append r.cells (v ∷ []));
          }

-- ---- so a sweep that changes something leaves more known cells than sweeps were made

pub sweeps_few : {G : Graph} {dearest : ℕ} (k : ℕ) {known known' previous' : List ℕ} → length known ≡ G.size → BeatenBy G k known → NoHigher known known'
    → Grounded G dearest known' previous' → Progress G dearest true known known' → suc k < times (ltb 0) known'
sweeps_few {G} {dearest} k {known} {known'} {previous'} long B low K P =
    ask_less (suc k) (times (ltb 0) known') (λ h. h) (λ h. absurd (omega (arith, P.falls refl, ap (known_sum (above_all G dearest)) (same h))))
  where
    exact : times (ltb 0) known' ≤ suc k → (v : ℕ) → (get_or known' v 0 ≡ 0) ⊎ (0 < get_or known' v 0) → (get_or known v 0 ≡ 0) ⊎ (0 < get_or known v 0) → get_or known v 0 ≡ get_or known' v 0
    exact h v (inl a) (inl b) = b ∙ sym a
    exact h v (inl a) (inr b) = absurd (omega (arith, low v b))
    exact h v (inr a) c =
        let v-in : v < G.size = omega (arith, in_reach known' v a, K.linked.known-long) in
        let s = short-way K.linked (suc (lighter K.linked (weight K.linked v))) v (omega arith) a in
        let b = B s.cells v s.cost (omega (arith, s.short, lighter-few K.linked v v-in a)) s.leads in
        omega (arith, b, s.cheap, low v b.0)

    same : times (ltb 0) known' ≤ suc k → known ≡ known'
    same h = ext_get_or 0 known known' (long ∙ sym K.linked.known-long) (λ v _. exact h v (eq-zero-or-pos (get_or known' v 0)) (eq-zero-or-pos (get_or known v 0)))
