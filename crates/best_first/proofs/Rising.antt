-- With a consistent estimate the keys taken never fall: a closed cell stays closed, at its cost.
use Rattle.std.specs.Prelude.{◌≡◌, ◌⊎◌, List, [], ◌∷◌, ℕ, suc, ◌+◌, ◌≤◌, ◌<◌, get_or, set, replicate}
use Rattle.std.proofs.Math.Path.{ap}
use Rattle.std.proofs.Math.Logic.{inl, inr}
use Rattle.std.proofs.Common.{zero-le, arith, eq-zero-or-pos}
use Rattle.basics.specs.Lists.{In}
use Rattle.basics.specs.Zeros.{zeros}
use Rattle.best_first.specs.Search.{Graph, Move, Entry, State, Taken, push, one_more_expanded, first_state}
use Rattle.best_first.specs.Ways.{Sound, Consistent}
use Rattle.best_first.specs.Statements.{Taking, known_at}
use Rattle.best_first.specs.ListsAfterSet.{AfterStore, hit, miss}
use Rattle.best_first.proofs.Equations.{Gain}
use Rattle.best_first.proofs.Base.{Base, Mid, due-lawful, taken-fresh, mark-taken, still-closed, same}

-- `top` is the last key taken
pub record Rising (G : Graph) (closed : List ℕ) (top : ℕ) (s : State) : Type 0 where
  pub settled : (v : ℕ) → 0 < get_or closed v 0 → known_at s v + G.estimate v ≤ suc top
  pub late : (e : Entry) → In e s.waiting → top ≤ e.key

pub first-rising : (G : Graph) → Rising G (replicate G.size 0) 0 (first_state G)
first-rising G = record { settled = λ v c. absurd (omega (arith, zeros G.size v)); late = λ e i. zero-le }

module _ {G : Graph} {closed ages : List ℕ} {w top : ℕ} {s : State} {t : Taken} (B : Base G closed ages w [] s) (A : Rising G closed top s) (k : Taking s.waiting t) where
  pub again-rising : Rising G closed t.next.key (one_more_expanded s t.left)
  again-rising = record {
    settled = λ v c. omega (arith, A.settled v c, A.late t.next k.from);
    late = λ e i. k.low e (k.left_in e i);
  }

  pub anew-rising : get_or closed t.next.cell 0 ≡ 0 → Rising G (set closed t.next.cell 1) t.next.key (one_more_expanded s t.left)
  anew-rising o = record { settled = λ v c. settled v c (mark-taken B k v); late = λ e i. k.low e (k.left_in e i) }
    where
      settled : (v : ℕ) → 0 < get_or (set closed t.next.cell 1) v 0 → AfterStore closed t.next.cell 1 v → known_at s v + G.estimate v ≤ suc t.next.key
      settled v c (hit e q) = rw e (omega (arith, taken-fresh B k o))
      settled v c (miss n q) = again-rising.settled v (omega arith)

module _ {G : Graph} {closed ages : List ℕ} {u d top : ℕ} {m : Move} {ms : List Move} {s : State} (M : Mid G closed ages u d (m ∷ ms) s) (A : Rising G closed top s)
    (now : top ≡ d + G.estimate u) (K : Consistent G) (gain : Gain (suc (d + m.cost)) (known_at s m.to)) where
  pub still_open : get_or closed m.to 0 ≡ 0
  still_open = go (eq-zero-or-pos (get_or closed m.to 0)) gain
    where
      go : (get_or closed m.to 0 ≡ 0) ⊎ (0 < get_or closed m.to 0) → Gain (suc (d + m.cost)) (known_at s m.to) → get_or closed m.to 0 ≡ 0
      go (inl o) g = o
      go (inr c) (inl z) = absurd (omega (arith, M.base.closed-known m.to c))
      go (inr c) (inr l) = absurd (omega (arith, A.settled m.to c, K.falls u m (due-lawful M)))

  pub push-rising : {degree dearest : ℕ} → Sound G degree dearest → Rising G (set closed m.to 0) top (push G u m.to (d + m.cost) s)
  unfolding push
  push-rising S = record {
    settled = λ v c. let n = still-closed M S gain v c in omega (arith, same M S gain v n.0, A.settled v n.1);
    late = λ e. elim [ inl p ↦ omega (arith, ap (λ (x : Entry). x.key) p, K.falls u m (due-lawful M)) | inr i ↦ A.late e i ];
  }
