-- At any costs and any estimate: where nothing waits any more no move leaves the known cells, so "no route" is true.
use Rattle.std.specs.Prelude.{◌≡◌, ◌⊎◌, List, [], ◌∷◌, ℕ, ◌<◌, get_or}
use Rattle.std.proofs.Common.{inl, inr, arith, eq-zero-or-pos}
use Rattle.basics.specs.Lists.{In}
use Rattle.best_first.specs.Search.{Graph, Move, State}
use Rattle.best_first.specs.Ways.{GraphStep, Way, NoWay, Sound}
use Rattle.best_first.specs.Statements.{known_at, Reached, Shut}
use Rattle.best_first.proofs.Base.{Waits, all-loose}
use Rattle.best_first.proofs.Induction.{Holds, invariant_holds, bare}

pub shut_no_way : {G : Graph} {known : List ℕ} → Shut G known → NoWay G
unfolding GraphStep
shut_no_way {G} {known} K l d W = absurd (omega (arith, K.lacks-goal, stays l G.start G.goal d K.holds-start W))
  where
    stays : (l : List ℕ) (u t d : ℕ) → 0 < get_or known u 0 → Way G u l t d → 0 < get_or known t 0
    stays [] u t d h W = rw W.0 at h
    stays (v ∷ l) u t d h W =
        let st = W.2 in
        stays l v t W.1 (rw st.2 at (K.none-leaves u st.0 h st.1)) W.3

module _ {G : Graph} {degree dearest : ℕ} (S : Sound G degree dearest) {pushed : List ℕ} {s : State} (R : Reached G pushed s) where
  H : Holds (bare G) pushed s
  H = invariant_holds S (bare G) R

  pub empty-shut : s.waiting ≡ [] → Shut G s.known
  empty-shut e = record {
    holds-start = omega (arith, H.base.linked.start-known);
    lacks-goal = lacks (eq-zero-or-pos (known_at s G.goal));
    none-leaves = λ v m p i. leaves v m i p (eq-zero-or-pos (get_or H.closed v 0));
  }
    where
      none : {v : ℕ} → Waits G s.known s.waiting v → ⊥
      none W = rw e at W.there

      lacks : (known_at s G.goal ≡ 0) ⊎ (0 < known_at s G.goal) → known_at s G.goal ≡ 0
      lacks (inl z) = z
      lacks (inr p) = absurd (none (H.base.waits G.goal p H.base.goal_open))

      leaves : (v : ℕ) (m : Move) → In m (G.moves v) → 0 < known_at s v → (get_or H.closed v 0 ≡ 0) ⊎ (0 < get_or H.closed v 0) → 0 < known_at s m.to
      leaves v m i p (inl o) = absurd (none (H.base.waits v p o))
      leaves v m i p (inr c) = (all-loose H.base v m c i).is_known
