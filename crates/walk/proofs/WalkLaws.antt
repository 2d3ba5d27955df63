-- The walk reaches the cells to which a chain leads, and no others; the path by parents is a chain.
use Rattle.std.specs.Prelude.{◌≡◌, refl, ◌⊎◌, ◌≢◌, ◌↔◌, true, ltb, eqb, length, get_or, set, replicate}
use Rattle.std.proofs.Common.{sym, subst, ap, ◌∙◌, inl, le_of_suc-le-suc, not-suc-le-zero, add-one, arith, length-append}
use Rattle.std.proofs.Math.Logic.{inr, ⊎_elim}
use mathlib.Core.List.{List, [], ◌∷◌, ◌++◌}
use Prim.Native.Nat.{ℕ, zero, suc, ◌+◌, ◌-◌, ◌≤◌, ◌<◌}
use Rattle.std.proofs.Math.ListN.{length-set}
use Rattle.std.proofs.lemmas.List.{length-replicate}
use Rattle.std.proofs.Math.Seq.{get_or-set_same, get_or-set_other}
use borrow.Author.Tests.{eq-eqb, ne_eqb, eqb-true, eqb-false, ltb-true, lt-ltb}
use Rattle.basics.specs.Tests.{ask, ask_same}
use Rattle.basics.specs.Lists.{In}
use Rattle.basics.specs.Counts.{times-most}
use Rattle.basics.specs.Folds.{along}
use Rattle.basics.specs.Zeros.{zeros}
use Rattle.best_first.specs.ListsAfterSet.{nonzeros, nonzeros-none, nonzeros-new, in_reach, length_zero, AfterStore, hit, miss, after}
use Rattle.best_first.specs.Search.{trace}
use Rattle.best_first.proofs.Equations.{trace-start, trace-back}
use Rattle.trace.specs.TraceLaws.{trace-short}
use Rattle.walk.specs.Walks.{Wave, wave, meet, meet_all, spread, first_parents, parents_from, is_reached, root_path, StaysBelow, PathFrom}
use Rattle.walk.specs.Chains.{Chain, Chained, NoneTwice}
use Rattle.walk.specs.ChainLaws.{chained-here, chained-step, chained-on, chain-closed}
use Rattle.walk.specs.Visits.{HasParent, MetInOrder, Walked, AllMet, WalkedAll, ByParents}

-- ---- the equations of the definition, case by case

module _ (u v : ℕ) (parents waiting : List ℕ) where
  pub meet-new : get_or parents v 0 ≡ 0 → meet u v (wave parents waiting) ≡ wave (set parents v (u + 1)) (waiting ++ (v ∷ []))
  unfolding meet
  meet-new e = rw (eq-eqb (get_or parents v 0) 0 e)

  pub meet-old : get_or parents v 0 ≢ 0 → meet u v (wave parents waiting) ≡ wave parents waiting
  unfolding meet
  meet-old d = rw (ne_eqb (get_or parents v 0) 0 d)

pub spread_visit : (n : ℕ) (next : ℕ → List ℕ) (parents : List ℕ) (u : ℕ) (waiting : List ℕ)
    → spread (suc n) next (wave parents (u ∷ waiting)) ≡ spread n next (meet_all u (next u) (wave parents waiting))
unfolding spread
spread_visit n next parents u waiting = refl

pub spread-done : (n : ℕ) (next : ℕ → List ℕ) (parents : List ℕ) → spread n next (wave parents []) ≡ parents
unfolding spread
spread-done zero next parents = refl
spread-done (suc n) next parents = refl

-- ---- members of lists

in_back : (x v : ℕ) (l : List ℕ) → In x (l ++ (v ∷ [])) → In x l ⊎ (x ≡ v)
in_back x v [] (inl e) = inr e
in_back x v [] (inr i) = absurd i
in_back x v (y ∷ l) (inl e) = inl (inl e)
in_back x v (y ∷ l) (inr i) = ⊎_elim {C = In x (y ∷ l) ⊎ (x ≡ v)} (λ j. inl (inr j)) (λ e. inr e) (in_back x v l i)

in_front : (x : ℕ) (l m : List ℕ) → In x l → In x (l ++ m)
in_front x [] m i = absurd i
in_front x (y ∷ l) m (inl e) = inl e
in_front x (y ∷ l) m (inr i) = inr (in_front x l m i)

in_last : (v : ℕ) (l : List ℕ) → In v (l ++ (v ∷ []))
in_last v [] = inl refl
in_last v (y ∷ l) = inr (in_last v l)

-- ---- the cells reached, from the last to the first

parent-kept : {next : ℕ → List ℕ} {parents parents' earlier : List ℕ} {v : ℕ} → get_or parents' v 0 ≡ get_or parents v 0 → HasParent next parents earlier v
    → HasParent next parents' earlier v
parent-kept e P = record { parent = P.parent; noted = e ∙ P.noted; met-before = P.met-before; step = P.step }

module _ (next : ℕ → List ℕ) (source : ℕ) where
  met-order-source : (parents met : List ℕ) → MetInOrder next source parents met → In source met
  met-order-source parents [] g = absurd g
  met-order-source parents (v ∷ []) g = inl (sym g)
  met-order-source parents (v ∷ (w ∷ earlier)) g = inr (met-order-source parents (w ∷ earlier) g.2)

  -- only the parents of the cells reached matter, and not the source's
  met-order-kept : (parents parents' : List ℕ) (met : List ℕ) → MetInOrder next source parents met
      → ((v : ℕ) → In v met → v ≢ source → get_or parents' v 0 ≡ get_or parents v 0) → MetInOrder next source parents' met
  met-order-kept parents parents' [] g k = g
  met-order-kept parents parents' (v ∷ []) g k = g
  met-order-kept parents parents' (v ∷ (w ∷ earlier)) g k = (
    g.0,
    parent-kept (k v (inl refl) (λ e. g.0 (subst (λ s. In s (w ∷ earlier)) (sym e) (met-order-source parents (w ∷ earlier) g.2)))) g.1,
    met-order-kept parents parents' (w ∷ earlier) g.2 (λ x i. k x (inr i)),
  )

  met-order-next : (parents met : List ℕ) (u v : ℕ) → MetInOrder next source parents met → (In v met → ⊥) → get_or parents v 0 ≡ suc u → In u met → In v (next u)
      → MetInOrder next source parents (v ∷ met)
  met-order-next parents [] u v g new e i s = absurd g
  met-order-next parents (w ∷ earlier) u v g new e i s = (new, record { parent = u; noted = e; met-before = i; step = s }, g)

  -- each cell reached but the source has a parent, which was reached too
  met-order-parent : (parents met : List ℕ) → MetInOrder next source parents met → (v : ℕ) → In v met → v ≢ source → HasParent next parents met v
  met-order-parent parents [] g v i d = absurd i
  met-order-parent parents (w ∷ []) g v (inl e) d = absurd (d (e ∙ g))
  met-order-parent parents (w ∷ []) g v (inr i) d = absurd i
  met-order-parent parents (w ∷ (x ∷ earlier)) g v (inl e) d =
      let P = g.1 in
      record { parent = P.parent; noted = ap (λ (y : ℕ). get_or parents y 0) e ∙ P.noted; met-before = inr P.met-before; step = rw e P.step }
  met-order-parent parents (w ∷ (x ∷ earlier)) g v (inr i) d =
      let P = met-order-parent parents (x ∷ earlier) g.2 v i d in
      record { parent = P.parent; noted = P.noted; met-before = inr P.met-before; step = P.step }

  -- and a chain leads to it
  met-order-chained : (parents met : List ℕ) → MetInOrder next source parents met → (v : ℕ) → In v met → Chained next source v
  met-order-chained parents [] g v i = absurd i
  met-order-chained parents (w ∷ []) g v (inl e) = rw (e, g) (chained-here next source)
  met-order-chained parents (w ∷ []) g v (inr i) = absurd i
  met-order-chained parents (w ∷ (x ∷ earlier)) g v (inl e) =
      let P = g.1 in
      chained-on next source P.parent v (met-order-chained parents (x ∷ earlier) g.2 P.parent P.met-before) (chained-step next P.parent v (rw e P.step))
  met-order-chained parents (w ∷ (x ∷ earlier)) g v (inr i) = met-order-chained parents (x ∷ earlier) g.2 v i

-- ---- one cell is met

-- the walk after more cells were met
record Further (next : ℕ → List ℕ) (n source : ℕ) (visited met cells : List ℕ) (w : Wave) : Type 0 where
  pub now : List ℕ
  pub walked : Walked next n source visited now w.parents w.waiting
  pub kept : (x : ℕ) → In x met → In x now
  pub met_all : (x : ℕ) → In x cells → In x now

module _ {next : ℕ → List ℕ} {n source : ℕ} where
  module _ {visited met parents waiting : List ℕ} (W : Walked next n source visited met parents waiting) where
    met-known : (v : ℕ) → In v met → 0 < get_or parents v 0
    met-known v i =
        ask_same v source
        (λ e. rw e W.root)
        (λ d. let P = met-order-parent next source parents met W.in_order v i d in omega (arith, P.noted))

    met_in : (v : ℕ) → In v met → v < n
    met_in v i = omega (arith, in_reach parents v (met-known v i), W.long)

    met-most : length met ≤ n
    met-most = omega (arith, W.counted, W.long, times-most (ltb 0) parents)

    met-now : (u v : ℕ) → In u met → In v (next u) → v < n → get_or parents v 0 ≡ 0 → Walked next n source visited (v ∷ met) (set parents v (u + 1)) (waiting ++ (v ∷ []))
    met-now u v i s h z = record {
      long = length-set parents v (u + 1) ∙ W.long;
      in_order = met-order-next next source (set parents v (u + 1)) met u v
          (met-order-kept next source parents (set parents v (u + 1)) met W.in_order (λ x j _. get_or-set_other parents v x (u + 1) 0 (λ e. fresh (rw e at j))))
          fresh (get_or-set_same parents v (u + 1) 0 inside ∙ add-one u) i s;
      root = rw (get_or-set_other parents v source (u + 1) 0 (λ e. omega (arith, W.root, ap (λ (x : ℕ). get_or parents x 0) e))) W.root;
      counted = ap (λ (x : ℕ). nonzeros (set parents v x)) (add-one u) ∙ nonzeros-new parents v u inside z ∙ ap suc W.counted;
      reached = λ x p. reached x p (after parents v (u + 1) x inside);
      came = came;
      waits = λ x j. ⊎_elim {C = In x (v ∷ met)} (λ k. inr (W.waits x k)) (λ e. inl e) (in_back x v waiting j);
      line = omega (arith, W.line, length-append waiting (v ∷ []));
    }
      where
        inside : v < length parents
        inside = omega (arith, W.long)

        fresh : In v met → ⊥
        fresh j = omega (arith, met-known v j)

        reached : (x : ℕ) → 0 < get_or (set parents v (u + 1)) x 0 → AfterStore parents v (u + 1) x → In x (v ∷ met)
        reached x p (hit e q) = inl e
        reached x p (miss d q) = inr (W.reached x (rw q at p))

        came : (x : ℕ) → In x (v ∷ met) → In x visited ⊎ In x (waiting ++ (v ∷ []))
        came x (inl e) = inr (rw e (in_last v waiting))
        came x (inr j) = ⊎_elim {C = In x visited ⊎ In x (waiting ++ (v ∷ []))} (λ k. inl k) (λ k. inr (in_front x waiting (v ∷ []) k)) (W.came x j)

  meets : (visited : List ℕ) (u : ℕ) (cells met parents waiting : List ℕ) → Walked next n source visited met parents waiting → In u met
      → ((v : ℕ) → In v cells → In v (next u) × (v < n)) → Further next n source visited met cells (meet_all u cells (wave parents waiting))
  unfolding along
  meets visited u [] met parents waiting W i f = record { now = met; walked = W; kept = λ x j. j; met_all = λ x j. absurd j }
  meets visited u (v ∷ cells) met parents waiting W i f =
      ask_same (get_or parents v 0) 0
      (λ z. rw (meet-new u v parents waiting z) (more (v ∷ met) (λ x j. inr j) (inl refl)
      (meets visited u cells (v ∷ met) (set parents v (u + 1)) (waiting ++ (v ∷ [])) (met-now W u v i (f v (inl refl)).0 (f v (inl refl)).1 z) (inr i) (λ x j. f x (inr j)))))
      (λ d. rw (meet-old u v parents waiting d) (more met (λ x j. j) (W.reached v (omega (arith, d)))
      (meets visited u cells met parents waiting W i (λ x j. f x (inr j)))))
    where
      more : (met' : List ℕ) → ((x : ℕ) → In x met → In x met') → In v met' → {w : Wave} → Further next n source visited met' cells w → Further next n source visited met (v ∷ cells) w
      more met' k j F = record {
        now = F.now;
        walked = F.walked;
        kept = λ x i. F.kept x (k x i);
        met_all = λ x i. ⊎_elim {C = In x F.now} (λ e. rw e (F.kept v j)) (F.met_all x) i;
      }

-- ---- the walk goes on until no cell waits

-- all is visited
record Over (next : ℕ → List ℕ) (n source : ℕ) (parents : List ℕ) : Type 0 where
  pub visited : List ℕ
  pub met : List ℕ
  pub walked : Walked next n source visited met parents []
  pub closed : AllMet next met met

module _ {next : ℕ → List ℕ} {n source : ℕ} (I : StaysBelow next n) where
  all-visited : {visited met parents : List ℕ} → Walked next n source visited met parents [] → AllMet next visited met → Over next n source parents
  all-visited {visited} {met} W C = record {
    visited = visited;
    met = met;
    walked = W;
    closed = λ u i. ⊎_elim {C = (v : ℕ) → In v (next u) → In v met} (C u) (λ j. absurd j) (W.came u i);
  }

  -- the first cell that waits is visited
  walked_on : (visited met parents : List ℕ) (u : ℕ) (rest : List ℕ) → Walked next n source visited met parents (u ∷ rest)
      → Walked next n source (u ∷ visited) met parents rest
  walked_on visited met parents u rest W = record {
    long = W.long;
    in_order = W.in_order;
    root = W.root;
    counted = W.counted;
    reached = W.reached;
    came = λ v i. came v (W.came v i);
    waits = λ v i. W.waits v (inr i);
    line = omega (arith, W.line);
  }
    where
      came : (v : ℕ) → In v visited ⊎ In v (u ∷ rest) → In v (u ∷ visited) ⊎ In v rest
      came v (inl i) = inl (inr i)
      came v (inr (inl e)) = inl (inl e)
      came v (inr (inr i)) = inr i

  closed_on : (visited met : List ℕ) (u : ℕ) → AllMet next visited met → {w : Wave} (F : Further next n source (u ∷ visited) met (next u) w)
      → AllMet next (u ∷ visited) F.now
  closed_on visited met u C F x (inl e) v j = F.met_all v (rw e at j)
  closed_on visited met u C F x (inr i) v j = F.kept v (C x i v j)

  spread-over : (k : ℕ) (visited met parents waiting : List ℕ) → Walked next n source visited met parents waiting → AllMet next visited met
      → n ≤ length visited + k → Over next n source (spread k next (wave parents waiting))
  unfolding spread
  spread-over zero visited met parents waiting W C h =
      let e : waiting ≡ [] = length_zero waiting (omega (arith, W.line, met-most W)) in
      all-visited (rw e at W) C
  spread-over (suc k) visited met parents [] W C h = all-visited W C
  spread-over (suc k) visited met parents (u ∷ rest) W C h =
      let i : In u met = W.waits u (inl refl) in
      let F = meets (u ∷ visited) u (next u) met parents rest (walked_on visited met parents u rest W) i (λ v j. (j, I u (met_in W u i) v j)) in
      spread-over k (u ∷ visited) F.now _ _ F.walked (closed_on visited met u C F) (omega arith)

  module _ (source_in : source < n) where
    first-walked : Walked next n source [] (source ∷ []) (first_parents n source) (source ∷ [])
    first-walked = record {
      long = length-set (replicate n 0) source (source + 1) ∙ length-replicate {A = ℕ} n 0;
      in_order = refl;
      root = rw (get_or-set_same (replicate n 0) source (source + 1) 0 inside) (omega arith);
      counted = rw add-one (nonzeros-new (replicate n 0) source source inside (zeros n source) ∙ ap suc (nonzeros-none n));
      reached = λ v p. reached v p (after (replicate n 0) source (source + 1) v inside);
      came = λ v i. inr i;
      waits = λ v i. i;
      line = omega arith;
    }
      where
        inside : source < length {A = ℕ} (replicate n 0)
        inside = omega (arith, length-replicate {A = ℕ} n 0)

        reached : (v : ℕ) → 0 < get_or (first_parents n source) v 0 → AfterStore (replicate n 0) source (source + 1) v → In v (source ∷ [])
        reached v p (hit e q) = inl e
        reached v p (miss d q) = absurd (omega (arith, zeros n v))

    -- the line empties within n visits
    walk-over : Over next n source (spread n next (wave (first_parents n source) (source ∷ [])))
    walk-over = spread-over n [] (source ∷ []) (first_parents n source) (source ∷ []) first-walked (λ u i. absurd i) (omega arith)

    walked_all : (met : List ℕ) × WalkedAll next n source met (parents_from next n source)
    unfolding parents_from
    walked_all = (
      O.met,
      record {
        long = length-set parents source 0 ∙ W.long;
        in_order = met-order-kept next source parents (set parents source 0) O.met W.in_order (λ v i d. get_or-set_other parents source v 0 0 d);
        root = get_or-set_same parents source 0 0 inside;
        reached = λ v p. reached v p (after parents source 0 v inside);
        inside = met_in W;
        few = met-most W;
        closed = O.closed;
      },
    )
      where
        O : Over next n source (spread n next (wave (first_parents n source) (source ∷ [])))
        O = walk-over

        parents : List ℕ
        parents = spread n next (wave (first_parents n source) (source ∷ []))

        W : Walked next n source O.visited O.met parents []
        W = O.walked

        inside : source < length parents
        inside = omega (arith, W.long)

        reached : (v : ℕ) → 0 < get_or (set parents source 0) v 0 → AfterStore parents source 0 v → In v O.met
        reached v p (hit e q) = absurd (omega arith)
        reached v p (miss d q) = W.reached v (rw q at p)

-- ---- what is reached, and the path by parents

module _ {next : ℕ → List ℕ} {n source : ℕ} {met parents : List ℕ} (F : WalkedAll next n source met parents) where
  -- the cells reached are those to which a chain leads
  chained-met : (v : ℕ) → Chained next source v → In v met
  chained-met v L = chain-closed next (λ x. In x met) (λ u x i j. F.closed u i x j) source L.cells v L.chain (met-order-source next source parents met F.in_order)

  met-chained : (v : ℕ) → In v met → Chained next source v
  met-chained v i = met-order-chained next source parents met F.in_order v i

  met-parent : (v : ℕ) → In v met → v ≢ source → HasParent next parents met v
  met-parent = met-order-parent next source parents met F.in_order

-- back along the parents
trail : (next : ℕ → List ℕ) (source : ℕ) (parents : List ℕ) → get_or parents source 0 ≡ 0 → (met : List ℕ) → MetInOrder next source parents met → (m : ℕ) → length met ≤ m
    → (v : ℕ) → In v met → (rest : List ℕ) (t : ℕ) → Chain next v rest t → NoneTwice rest → ((x : ℕ) → In x rest → In x met → ⊥)
    → (l : List ℕ) × (trace m parents v rest ≡ source ∷ l) × Chain next source l t × NoneTwice (source ∷ l)
trail next source parents z [] g m h v i rest t c d f = absurd i
trail next source parents z (w ∷ earlier) g zero h v i rest t c d f = absurd (not-suc-le-zero h)
trail next source parents z (w ∷ []) g (suc m) h v (inr i) rest t c d f = absurd i
trail next source parents z (w ∷ []) g (suc m) h v (inl e) rest t c d f =
    let q : v ≡ source = e ∙ g in
    (rest, trace-start m parents v rest (ap (λ (x : ℕ). get_or parents x 0) q ∙ z) ∙ ap (λ (x : ℕ). x ∷ rest) q, rw q at c, ((λ i. f source i (inl (sym g))), d))
trail next source parents z (w ∷ (x ∷ earlier)) g (suc m) h v (inl e) rest t c d f =
    let P = g.1 in
    let r = trail next source parents z (x ∷ earlier) g.2 m (le_of_suc-le-suc h) P.parent P.met-before (v ∷ rest) t (rw e P.step, c)
    ((λ i. f v i (inl e)), d)
    (λ y j i. ⊎_elim {C = ⊥} (λ q. let is : y ≡ w = q ∙ e in g.0 (subst (λ s. In s (x ∷ earlier)) is i)) (λ k. f y k (inr i)) j) in
    (r.0, trace-back m parents v P.parent rest (ap (λ (y : ℕ). get_or parents y 0) e ∙ P.noted) ∙ r.1, r.2, r.3)
trail next source parents z (w ∷ (x ∷ earlier)) g (suc m) h v (inr i) rest t c d f =
    trail next source parents z (x ∷ earlier) g.2 (suc m) (omega arith) v i rest t c d (λ y j k. f y j (inr k))

module _ (next : ℕ → List ℕ) (n source : ℕ) (I : StaysBelow next n) (source_in : source < n) where
  abbrev parents : List ℕ
  parents = parents_from next n source

  whole-walk : (met : List ℕ) × WalkedAll next n source met parents
  whole-walk = walked_all {next = next} I source_in

  -- "exactly if": a cell other than the source has a parent if a chain leads from the source to it, and only if
  pub parent-chained : (v : ℕ) → 0 < get_or parents v 0 → Chained next source v
  parent-chained v p = let F = whole-walk in met-chained F.1 v (F.1.reached v p)

  pub chained-parent : (v : ℕ) → v ≢ source → Chained next source v → 0 < get_or parents v 0
  chained-parent v d L = let F = whole-walk in let P = met-parent F.1 v (chained-met F.1 v L) d in omega (arith, P.noted)

  -- the same as a test
  pub reached-exactly : (v : ℕ) → (is_reached next n source v ≡ true) ↔ Chained next source v
  unfolding is_reached
  reached-exactly v = (
    (λ e. ask (eqb source v) (λ t. rw (sym (eqb-true source v t)) (chained-here next source)) (λ f. parent-chained v (ltb-true 0 _ (rw f at e)))),
    (λ C. ask (eqb source v) (λ t. rw t)
        (λ f. rw (f, lt-ltb 0 (get_or parents v 0) (chained-parent v (λ q. eqb-false source v f (sym q)) C)))),
  )

  parents-long : length parents ≡ n
  parents-long = whole-walk.1.long

  -- the path by parents to a cell to which a chain leads
  pub root-path : (v : ℕ) → Chained next source v → PathFrom next n source v (root_path parents v)
  root-path v L =
      let F = whole-walk in
      let r = trail next source parents F.1.root F.0 F.1.in_order (length parents) (omega (arith, F.1.few, parents-long)) v (chained-met F.1 v L) [] v refl tt (λ x j. absurd j) in
      record {
        rest = r.0;
        begins = r.1;
        chain = r.2;
        none-twice = rw r.1 r.3;
        short = omega (arith, trace-short (length parents) parents v [], parents-long);
      }

-- ---- the path goes by parents

trace-parents : (n : ℕ) (parents : List ℕ) (v : ℕ) (rest : List ℕ) → ByParents parents (v ∷ rest) → ByParents parents (trace n parents v rest)
unfolding trace
trace-parents zero parents v [] s = tt {0}
trace-parents zero parents v (x ∷ rest) s = s.1
trace-parents (suc n) parents v rest s = go (get_or parents v 0) refl (λ u. trace-parents n parents u (v ∷ rest))
  where
    go : (k : ℕ) → get_or parents v 0 ≡ k → ((u : ℕ) → ByParents parents (u ∷ (v ∷ rest)) → ByParents parents (trace n parents u (v ∷ rest)))
        → ByParents parents (trace (suc n) parents v rest)
    go zero e ih = rw (trace-start n parents v rest e) s
    go (suc u) e ih = rw (trace-back n parents v u rest e) (ih u (e, s))

parents-at : (parents l : List ℕ) → ByParents parents l → (i : ℕ) → suc i < length l → get_or parents (get_or l (suc i) 0) 0 ≡ suc (get_or l i 0)
parents-at parents [] s i h = absurd (not-suc-le-zero h)
parents-at parents (a ∷ []) s i h = absurd (omega arith)
parents-at parents (a ∷ (b ∷ rest)) s zero h = s.0
parents-at parents (a ∷ (b ∷ rest)) s (suc i) h = parents-at parents (b ∷ rest) s.1 i (le_of_suc-le-suc h)

-- each cell of the path is the parent of the next, whatever the parents are
pub path_parent : (parents : List ℕ) (v i : ℕ) → 0 < i → i < length (root_path parents v)
    → get_or parents (get_or (root_path parents v) i 0) 0 ≡ suc (get_or (root_path parents v) (i - 1) 0)
path_parent parents v i h k =
    let e : suc (i - 1) ≡ i = omega arith in
    rw e at (parents-at parents (root_path parents v) (trace-parents (length parents) parents v [] (tt {0})) (i - 1) (rw e k))
