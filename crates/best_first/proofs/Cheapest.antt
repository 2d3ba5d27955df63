-- With a consistent estimate no way is cheaper than the goal's known cost when the goal is taken: on every way some cell waits that is no further
-- from the goal than the way allows, and the goal was taken before it.
use Rattle.std.specs.Prelude.{◌≡◌, ◌⊎◌, List, [], ◌∷◌, ℕ, suc, pred, ◌+◌, ◌≤◌, ◌<◌}
use Rattle.std.proofs.Math.Path.{ap}
use Rattle.std.proofs.Math.Logic.{inl, inr}
use Rattle.std.proofs.Common.{arith, eq-zero-or-pos, add-zero, add_assoc}
use Rattle.std.proofs.Math.ListN.{get_or}
use Rattle.best_first.specs.Search.{Graph, State, Taken}
use Rattle.best_first.specs.Ways.{GraphStep, Way, Consistent}
use Rattle.best_first.specs.Statements.{Cheapest, Taking, known_at, cost_of}
use Rattle.best_first.proofs.Base.{Base, all-loose, taken-fresh}

-- x is known at no more than a (costs with 1 added)
record Here (s : State) (x a : ℕ) : Type 0 where
  is_known : 0 < known_at s x
  cheap : known_at s x ≤ a

-- an open cell waits whose key is no more than x's would be at cost a; costs stand with 1 added
record Ahead (G : Graph) (closed : List ℕ) (s : State) (x a : ℕ) : Type 0 where
  cell : ℕ
  is_known : 0 < known_at s cell
  is_open : get_or closed cell 0 ≡ 0
  near : known_at s cell + G.estimate cell ≤ a + G.estimate x

module _ {G : Graph} (K : Consistent G) {closed ages : List ℕ} {w : ℕ} {s : State} (B : Base G closed ages w [] s) where
  one_on : (x v c a : ℕ) → GraphStep G x v c → Here s x a ⊎ Ahead G closed s x a → Here s v (a + c) ⊎ Ahead G closed s v (a + c)
  unfolding GraphStep
  one_on x v c a st (inr h) = inr (record {
    cell = h.cell;
    is_known = h.is_known;
    is_open = h.is_open;
    near = omega (arith, h.near, K.falls x st.0 st.1, st.3, ap G.estimate st.2);
  })
  one_on x v c a st (inl h) = go (eq-zero-or-pos (get_or closed x 0))
    where
      go : (get_or closed x 0 ≡ 0) ⊎ (0 < get_or closed x 0) → Here s v (a + c) ⊎ Ahead G closed s v (a + c)
      go (inl o) = inr (record {
        cell = x;
        is_known = h.is_known;
        is_open = o;
        near = omega (arith, h.cheap, K.falls x st.0 st.1, st.3, ap G.estimate st.2);
      })
      go (inr p) =
          let l = all-loose B x st.0 p st.1 in
          inl (record { is_known = rw st.2 at l.is_known; cheap = omega (arith, l.cheap, h.cheap, st.3, ap (known_at s) st.2) })

  all-on : (l : List ℕ) (x t d a : ℕ) → Way G x l t d → Here s x a ⊎ Ahead G closed s x a → Here s t (a + d) ⊎ Ahead G closed s t (a + d)
  all-on [] x t d a W n = rw (W.1, add-zero, ← W.0) n
  all-on (v ∷ l) x t d a W n = rw (W.4, ← add_assoc) (all-on l v t W.1 (a + W.0) W.3 (one_on x v W.0 a W.2 n))

  pub cheapest : {t : Taken} → Taking s.waiting t → t.next.cell ≡ G.goal → Cheapest G (cost_of s G.goal)
  cheapest {t} k e l d W =
      go (all-on l G.start G.goal d 1 W (inl (record { is_known = omega (arith, B.linked.start-known); cheap = omega (arith, B.linked.start-known) })))
    where
      fresh : suc t.next.key ≡ known_at s G.goal
      fresh =
          let o : get_or closed t.next.cell 0 ≡ 0 = rw e B.goal_open in
          omega (arith, taken-fresh B k o, ap (λ (n : ℕ). known_at s n + G.estimate n) e, K.goal_zero)

      go : Here s G.goal (1 + d) ⊎ Ahead G closed s G.goal (1 + d) → pred (known_at s G.goal) ≤ d
      go (inl h) = omega (arith, h.cheap)
      go (inr h) =
          let Q = B.waits h.cell h.is_known h.is_open in
          omega (arith, fresh, Q.fresh, k.low Q.entry Q.there, h.near, K.goal_zero)
