-- At rest, at any costs: the goal's path by predecessors is a way that adds up to its known cost and no way is cheaper; or the goal is unknown and no
-- way leads to it. The known cells are those that a way leads to.
use Rattle.std.specs.Prelude.{◌≡◌, refl, ◌⊎◌, ℕ, suc, pred, ◌+◌, ◌≤◌, ◌<◌, ltb, length}
use Rattle.std.proofs.Common.{sym, ◌∙◌, inl, inr, arith, ltb-true, lt-ltb}
use Rattle.std.proofs.Math.Path.{ap}
use mathlib.Core.List.{List, [], ◌∷◌}
use Rattle.std.proofs.Math.ListN.{get_or}
use Rattle.basics.specs.Tests.{ask}
use Rattle.basics.specs.Counts.{times}
use Rattle.best_first.specs.Search.{Graph, trace}
use Rattle.best_first.specs.Ways.{GraphStep, Way, NoWay}
use Rattle.best_first.specs.Statements.{Lawful, Cheapest}
use Rattle.best_first.specs.ListsAfterSet.{in_reach}
use Rattle.best_first.proofs.Predecessors.{Linked, Link, Origin}
use Rattle.best_first.proofs.Trail.{Up, here, further-up, goal-trail}
use Rattle.sweeps.specs.Sweeps.{Reachable, ReachedCount, Grounded, AtRest}

-- the same graph with another goal
abbrev towards : Graph → ℕ → Graph
towards G v = record { moves = G.moves; estimate = G.estimate; size = G.size; start = G.start; goal = v; places = G.places }

towards-way : (G : Graph) (v : ℕ) (l : List ℕ) (u t d : ℕ) → Way (towards G v) u l t d → Way G u l t d
unfolding GraphStep
towards-way G v [] u t d W = W
towards-way G v (w ∷ l) u t d W = (W.0, W.1, W.2, towards-way G v l w t W.1 W.3, W.4)

-- what is before a known cell is known
up-known : {G : Graph} {ages known previous : List ℕ} {serial : ℕ} → Linked G ages known previous serial → {a x : ℕ} → Up previous a x → 0 < get_or known x 0
    → 0 < get_or known a 0
up-known {known = known} L (here e) p = rw e at p
up-known {G} {ages} {known} {previous} L {a} (further-up {x} {y} e up) p = go (L.link x p) (up-known L up)
  where
    go : Origin G previous x ⊎ Link G ages known previous x → (0 < get_or known y 0 → 0 < get_or known a 0) → 0 < get_or known a 0
    go (inl o) ih = absurd (omega (arith, o.no_previous))
    go (inr k) ih =
        let q : k.by ≡ y = omega (arith, k.noted) in
        ih (rw q at k.is_known)

module _ {G : Graph} {dearest : ℕ} {known previous : List ℕ} (K : Grounded G dearest known previous) (rest : AtRest G known) where
  -- no way to a cell is cheaper than its known cost, and what a way leads to is known
  beaten : (l : List ℕ) (u t d : ℕ) → 0 < get_or known u 0 → Way G u l t d → (0 < get_or known t 0) × (get_or known t 0 ≤ get_or known u 0 + d)
  unfolding GraphStep
  beaten [] u t d p W = (rw W.0 at p, omega (arith, ap (λ n. get_or known n 0) W.0))
  beaten (v ∷ l) u t d p W =
      let st = W.2 in
      let o = rest u st.0 p st.1 in
      let q : 0 < get_or known v 0 = rw st.2 at o.is_known in
      let r = beaten l v t W.1 q W.3 in
      (r.0, omega (arith, r.1, o.cheap, ap (λ n. get_or known n 0) st.2, st.3, W.4))

  start-known : 0 < get_or known G.start 0
  start-known = omega (arith, K.linked.start-known)

  -- ---- the goal

  pub rest-cheapest : Cheapest G (pred (get_or known G.goal 0))
  rest-cheapest l d W = omega (arith, beaten l G.start G.goal d start-known W, K.linked.start-known)

  pub rest_no_way : get_or known G.goal 0 ≡ 0 → NoWay G
  rest_no_way e l d W = omega (arith, beaten l G.start G.goal d start-known W)

  -- ---- any cell

  linked_to : (v : ℕ) → Linked (towards G v) K.ages known previous K.serial
  linked_to v = record {
    known-long = K.linked.known-long;
    previous-long = K.linked.previous-long;
    ages-long = K.linked.ages-long;
    start-known = K.linked.start-known;
    young = K.linked.young;
    link = λ w p. go w (K.linked.link w p);
  }
    where
      go : (w : ℕ) → Origin G previous w ⊎ Link G K.ages known previous w → Origin (towards G v) previous w ⊎ Link (towards G v) K.ages known previous w
      go w (inl o) = inl (record { is-start = o.is-start; no_previous = o.no_previous })
      go w (inr k) = inr (record {
        by = k.by;
        move = k.move;
        noted = k.noted;
        lawful = k.lawful;
        leads-to = k.leads-to;
        is_known = k.is_known;
        adds = k.adds;
        older = k.older;
      })

  trail-to : (v : ℕ) → 0 < get_or known v 0 → Lawful (towards G v) (trace G.size previous v []) (pred (get_or known v 0))
  trail-to v p =
      goal-trail (linked_to v) (λ a up n m i. (rest a m (up-known (linked_to v) up p) i).cheap) (omega (arith, in_reach known v p, K.linked.known-long)) p

  pub rest_reachable : (v : ℕ) → 0 < get_or known v 0 → Reachable G v
  rest_reachable v p = let t = trail-to v p in (t.rest, pred (get_or known v 0), towards-way G v t.rest G.start v (pred (get_or known v 0)) t.way)

  pub rest-lawful : 0 < get_or known G.goal 0 → Lawful G (trace G.size previous G.goal []) (pred (get_or known G.goal 0))
  rest-lawful p =
      let t = trail-to G.goal p in
      record { rest = t.rest; begins = t.begins; way = towards-way G G.goal t.rest G.start G.goal (pred (get_or known G.goal 0)) t.way }

  pub rest-counted : ReachedCount G (times (ltb 0) known)
  rest-counted = record {
    marks = known;
    long = K.linked.known-long;
    marked = rest_reachable;
    all = λ v r. (beaten r.0 G.start v r.1 start-known r.2).0;
    counted = refl;
  }

-- ---- one number counts them

same_count : (a b : List ℕ) → length a ≡ length b → ((v : ℕ) → 0 < get_or a v 0 → 0 < get_or b v 0) → ((v : ℕ) → 0 < get_or b v 0 → 0 < get_or a v 0)
    → times (ltb 0) a ≡ times (ltb 0) b
unfolding times
same_count [] [] e f g = refl
same_count [] (y ∷ b) e f g = absurd (omega arith)
same_count (x ∷ a) [] e f g = absurd (omega arith)
same_count (x ∷ a) (y ∷ b) e f g =
    let ih = same_count a b (omega arith) (λ v. f (suc v)) (λ v. g (suc v)) in
    ask (ltb 0 x)
    (λ t. rw (t, lt-ltb 0 y (f 0 (ltb-true 0 x t))) (omega (arith, ih)))
    (λ n. ask (ltb 0 y) (λ t. let z = lt-ltb 0 x (g 0 (ltb-true 0 y t)) in rw (z, t) (omega (arith, ih))) (λ k. rw (n, k) (omega (arith, ih))))

pub count-one : {G : Graph} {j k : ℕ} → ReachedCount G j → ReachedCount G k → j ≡ k
count-one A B =
    sym A.counted
    ∙ same_count A.marks B.marks (A.long ∙ sym B.long) (λ v p. B.all v (A.marked v p)) (λ v p. A.all v (B.marked v p))
    ∙ B.counted
