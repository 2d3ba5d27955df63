-- At any costs: each known cell but the start was pushed by a lawful move out of a known cell, and costs no less than by that move. The links form no
-- ring: from a cell to the one before it the cost falls, or stays and the push is an earlier one.
use Rattle.std.specs.Prelude.{◌≡◌, ◌⊎◌, ◌≢◌, List, ℕ, suc, ◌+◌, ◌≤◌, ◌<◌, length, get_or, set, replicate}
use Rattle.std.proofs.Common.{sym, ap, ◌∙◌, inl, inr, arith, length-set, get_or-set_same, get_or-set_other}
use Rattle.std.proofs.lemmas.List.{length-replicate}
use Rattle.basics.specs.Lists.{In}
use Rattle.basics.specs.Zeros.{zeros}
use Rattle.best_first.specs.Search.{Graph, Move}
use Rattle.best_first.specs.Ways.{Sound}
use Rattle.best_first.specs.ListsAfterSet.{AfterStore, hit, miss, after}
use Rattle.best_first.proofs.Equations.{Gain, no_gain}

-- v is the start, which has no cell before it
pub record Origin (G : Graph) (previous : List ℕ) (v : ℕ) : Type 0 where
  pub is-start : v ≡ G.start
  pub no_previous : get_or previous v 0 ≡ 0

-- `ages` holds the serial of each cell's last push. The cost of the cell before may have fallen since
pub record Link (G : Graph) (ages known previous : List ℕ) (v : ℕ) : Type 0 where
  pub by : ℕ
  pub move : Move
  pub noted : get_or previous v 0 ≡ suc by
  pub lawful : In move (G.moves by)
  pub leads-to : move.to ≡ v
  pub is_known : 0 < get_or known by 0
  pub adds : get_or known by 0 + move.cost ≤ get_or known v 0
  pub older : get_or known by 0 ≡ get_or known v 0 → get_or ages by 0 < get_or ages v 0

-- each known cell is the start or has a link; no age is above the last serial
pub record Linked (G : Graph) (ages known previous : List ℕ) (serial : ℕ) : Type 0 where
  pub known-long : length known ≡ G.size
  pub previous-long : length previous ≡ G.size
  pub ages-long : length ages ≡ G.size
  pub start-known : get_or known G.start 0 ≡ 1
  pub young : (v : ℕ) → get_or ages v 0 ≤ serial
  pub link : (v : ℕ) → 0 < get_or known v 0 → Origin G previous v ⊎ Link G ages known previous v

-- ---- a store of a lower cost

-- no known cost rises
pub lowered : (known : List ℕ) (w x v : ℕ) → w < length known → 0 < x → Gain x (get_or known w 0) → 0 < get_or known v 0
    → (0 < get_or (set known w x) v 0) × (get_or (set known w x) v 0 ≤ get_or known v 0)
lowered known w x v h p g k = go (after known w x v h) g
  where
    go : AfterStore known w x v → Gain x (get_or known w 0) → (0 < get_or (set known w x) v 0) × (get_or (set known w x) v 0 ≤ get_or known v 0)
    go (hit e q) (inl z) = absurd (omega (arith, ap (λ (n : ℕ). get_or known n 0) e))
    go (hit e q) (inr l) = omega (arith, ap (λ (n : ℕ). get_or known n 0) e)
    go (miss n q) g = omega arith

module _ {G : Graph} {degree dearest : ℕ} (S : Sound G degree dearest) {ages known previous : List ℕ} {serial : ℕ} (L : Linked G ages known previous serial)
    (u : ℕ) (m : Move) (lawful : In m (G.moves u)) (u-known : 0 < get_or known u 0) (x : ℕ) (is_x : x ≡ get_or known u 0 + m.cost) (gain : Gain x (get_or known m.to 0)) where
  pub to_in : m.to < length known
  to_in = omega (arith, S.inside u m lawful, L.known-long)

  pub not_start : m.to ≢ G.start
  not_start e =
      let one : get_or known m.to 0 ≡ 1 = ap (λ (v : ℕ). get_or known v 0) e ∙ L.start-known in
      no_gain gain (omega (arith, one)) (omega (arith, one))

  pub not_itself : u ≢ m.to
  not_itself e =
      let same : get_or known u 0 ≡ get_or known m.to 0 = ap (λ (v : ℕ). get_or known v 0) e in
      no_gain gain (omega (arith, same)) (omega (arith, same))

  link_on : (v : ℕ) → AfterStore known m.to x v → 0 < get_or (set known m.to x) v 0
      → Origin G (set previous m.to (suc u)) v ⊎ Link G (set ages m.to (suc serial)) (set known m.to x) (set previous m.to (suc u)) v
  link_on v (hit e q) p = inr (record {
    by = u;
    move = m;
    noted = ap (λ (n : ℕ). get_or (set previous m.to (suc u)) n 0) e ∙ get_or-set_same previous m.to (suc u) 0 (omega (arith, to_in, L.known-long, L.previous-long));
    lawful = lawful;
    leads-to = sym e;
    is_known = omega (arith, same-u);
    adds = omega (arith, same-u);
    older = λ z. omega (
      arith,
      ap (λ (n : ℕ). get_or (set ages m.to (suc serial)) n 0) e,
      get_or-set_same ages m.to (suc serial) 0 (omega (arith, to_in, L.known-long, L.ages-long)),
      get_or-set_other ages m.to u (suc serial) 0 not_itself,
      L.young u,
    );
  })
    where
      same-u : get_or (set known m.to x) u 0 ≡ get_or known u 0
      same-u = get_or-set_other known m.to u x 0 not_itself
  link_on v (miss n q) p = go (L.link v (omega arith))
    where
      go : Origin G previous v ⊎ Link G ages known previous v
          → Origin G (set previous m.to (suc u)) v ⊎ Link G (set ages m.to (suc serial)) (set known m.to x) (set previous m.to (suc u)) v
      go (inl o) = inl (record { is-start = o.is-start; no_previous = get_or-set_other previous m.to v (suc u) 0 n ∙ o.no_previous })
      go (inr k) = inr (record {
        by = k.by;
        move = k.move;
        noted = get_or-set_other previous m.to v (suc u) 0 n ∙ k.noted;
        lawful = k.lawful;
        leads-to = k.leads-to;
        is_known = low.0;
        adds = omega (arith, low, k.adds);
        older = older (after known m.to x k.by to_in) gain;
      })
        where
          low : (0 < get_or (set known m.to x) k.by 0) × (get_or (set known m.to x) k.by 0 ≤ get_or known k.by 0)
          low = lowered known m.to x k.by to_in (omega arith) gain k.is_known

          -- the cell before v has become cheaper, or is as it was
          older : AfterStore known m.to x k.by → Gain x (get_or known m.to 0) → get_or (set known m.to x) k.by 0 ≡ get_or (set known m.to x) v 0
              → get_or (set ages m.to (suc serial)) k.by 0 < get_or (set ages m.to (suc serial)) v 0
          older (hit e r) (inl z) s = absurd (omega (arith, k.is_known, ap (λ (n : ℕ). get_or known n 0) e))
          older (hit e r) (inr l) s = absurd (omega (arith, k.adds, ap (λ (n : ℕ). get_or known n 0) e))
          older (miss d r) g s = omega (
            arith,
            k.older (omega arith),
            get_or-set_other ages m.to k.by (suc serial) 0 d,
            get_or-set_other ages m.to v (suc serial) 0 n,
          )

  pub push-linked : Linked G (set ages m.to (suc serial)) (set known m.to x) (set previous m.to (suc u)) (suc serial)
  push-linked = record {
    known-long = simp length-set L.known-long;
    previous-long = simp length-set L.previous-long;
    ages-long = simp length-set L.ages-long;
    start-known = get_or-set_other known m.to G.start x 0 (λ e. not_start (sym e)) ∙ L.start-known;
    young = λ v. young v (after ages m.to (suc serial) v (omega (arith, to_in, L.known-long, L.ages-long)));
    link = λ v. link_on v (after known m.to x v to_in);
  }
    where
      young : (v : ℕ) → AfterStore ages m.to (suc serial) v → get_or (set ages m.to (suc serial)) v 0 ≤ suc serial
      young v (hit e q) = omega arith
      young v (miss n q) = omega (arith, L.young v)

-- ---- the first state

module _ {G : Graph} {degree dearest : ℕ} (S : Sound G degree dearest) where
  pub start-placed : G.start < length {A = ℕ} (replicate G.size 0)
  start-placed = omega (arith, S.start_in, length-replicate {A = ℕ} G.size 0)

  -- only the start is known
  pub start-alone : (v : ℕ) → 0 < get_or {A = ℕ} (set (replicate G.size 0) G.start 1) v 0
      → (v ≡ G.start) × (get_or {A = ℕ} (set (replicate G.size 0) G.start 1) v 0 ≡ 1)
  start-alone v p = go (after (replicate G.size 0) G.start 1 v start-placed)
    where
      go : AfterStore (replicate G.size 0) G.start 1 v → (v ≡ G.start) × (get_or {A = ℕ} (set (replicate G.size 0) G.start 1) v 0 ≡ 1)
      go (hit e q) = (e, q)
      go (miss n q) = absurd (omega (arith, zeros G.size v))

  pub first-linked : Linked G (replicate G.size 0) (set (replicate G.size 0) G.start 1) (replicate G.size 0) 0
  first-linked = record {
    known-long = simp (length-set, length-replicate);
    previous-long = simp length-replicate;
    ages-long = simp length-replicate;
    start-known = get_or-set_same (replicate G.size 0) G.start 1 0 start-placed;
    young = λ v. omega (arith, zeros G.size v);
    link = λ v p. inl (record { is-start = (start-alone v p).0; no_previous = zeros G.size v });
  }
