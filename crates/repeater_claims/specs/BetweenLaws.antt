-- Over any branches: a sink that no chain of tree neighbours joins to the source is passed over, and each repeater stands between the cell before it and the
-- cell behind it on a sink's path.
use Rattle.std.specs.Prelude.{◌≡◌, ◌⊎◌, ◌≢◌, Bool, true, List, [], ◌∷◌, length, get_or}
use Rattle.std.proofs.Math.Path.{refl}
use Rattle.std.proofs.Common.{sym, ap, ◌∙◌, inl, inr, add-one, arith, le-ltb}
use Prim.Native.Nat.{ℕ, zero, suc, ◌+◌, ◌-◌, ◌≤◌, ◌<◌}
use Rattle.basics.specs.Tests.{ask}
use Rattle.basics.specs.Lists.{In}
use Rattle.room.specs.declared.Room.{Room}
use Rattle.room.specs.Room.{volume}
use Rattle.routing_resources.specs.Marks.{is_marked}
use Rattle.ends.specs.declared.Tap.{Tap}
use Rattle.best_first.specs.Search.{trace}
use Rattle.best_first.proofs.Equations.{trace-start}
use Rattle.repeaters.specs.Repeaters.{path_cell, fits, RunWalk, run_walk, strides, run, last_reset, end, reinforced, path_to, run_of, tail_of, tree_neighbours, repeater_marks}
use Rattle.walk.specs.Chains.{Chained}
use Rattle.walk.specs.ChainLaws.{chain-last, chain-step-at, chain-all, none-twice-at}
use Rattle.walk.specs.Walks.{parents_from, root_path, StaysBelow, PathFrom}
use Rattle.walk.proofs.WalkLaws.{parent-chained, root-path, path_parent}
use Rattle.repeater_claims.specs.Between.{StandsBetween}
use Rattle.repeater_claims.specs.BothWaysLaws.{neighbours-below, neighbour-back}
use Rattle.repeater_claims.specs.Standing.{PlaceFits}
use Rattle.repeater_claims.specs.StandingLaws.{place-fits, repeater-stands}
use Rattle.repeater_claims.specs.OppositeLaws.{are-opposite}

-- ---- a place of a path

two-are : (l : List ℕ) → length l ≡ 2 → (a b : ℕ) → a ≢ b → In a l → In b l → (l ≡ a ∷ b ∷ []) ⊎ (l ≡ b ∷ a ∷ [])
two-are [] e a b d i j = absurd i
two-are (x ∷ []) e a b d i j = absurd (omega arith)
two-are (x ∷ (y ∷ (z ∷ l))) e a b d i j = absurd (omega arith)
two-are (x ∷ (y ∷ [])) e a b d (inl i) (inl j) = absurd (d (i ∙ sym j))
two-are (x ∷ (y ∷ [])) e a b d (inl i) (inr (inl j)) = inl (rw (i, j) refl)
two-are (x ∷ (y ∷ [])) e a b d (inl i) (inr (inr j)) = absurd j
two-are (x ∷ (y ∷ [])) e a b d (inr (inl i)) (inl j) = inr (rw (i, j) refl)
two-are (x ∷ (y ∷ [])) e a b d (inr (inl i)) (inr (inl j)) = absurd (d (i ∙ sym j))
two-are (x ∷ (y ∷ [])) e a b d (inr (inl i)) (inr (inr j)) = absurd j
two-are (x ∷ (y ∷ [])) e a b d (inr (inr i)) j = absurd i

module _ {next : ℕ → List ℕ} {n source v : ℕ} {path : List ℕ} (W : PathFrom next n source v path) where
  -- its last cell is the one it leads to
  pub path-ends : path_cell path (length W.rest) ≡ v
  path-ends = rw W.begins (chain-last next source W.rest v W.chain)

  -- the next cell of the path is a neighbour
  pub path-step : (i : ℕ) → i + 1 < length path → In (path_cell path (i + 1)) (next (path_cell path i))
  path-step i h = rw (W.begins, add-one) (chain-step-at next source W.rest v W.chain i (omega (arith, ap length W.begins)))

  pub path-below : StaysBelow next n → source < n → (i : ℕ) → i < length path → path_cell path i < n
  path-below I s i h =
      rw W.begins (chain-all next (λ x. x < n) (λ u x p j. I u p x j) source W.rest v W.chain s i (omega (arith, ap length W.begins)))

-- ---- a cell that has no parent stands alone on its path

alone-on : (n : ℕ) (parents : List ℕ) (v : ℕ) → get_or parents v 0 ≡ 0 → length (trace n parents v []) ≤ 1
unfolding trace
alone-on zero parents v e = omega arith
alone-on (suc n) parents v e = rw (trace-start n parents v [] e) (omega arith)

path-alone : (parents : List ℕ) (v : ℕ) → get_or parents v 0 ≡ 0 → length (root_path parents v) ≤ 1
path-alone parents v e = alone-on (length parents) parents v e

-- so a path of more cells leads from the source
module _ (branches : List (List ℕ)) {n source : ℕ} (source_in : source < n) where
  pub path-from : (v : ℕ) → 1 < length (root_path (parents_from (tree_neighbours branches n) n source) v)
      → PathFrom (tree_neighbours branches n) n source v (root_path (parents_from (tree_neighbours branches n) n source) v)
  path-from v h = go (get_or (parents_from (tree_neighbours branches n) n source) v 0) refl
    where
      go : (p : ℕ) → get_or (parents_from (tree_neighbours branches n) n source) v 0 ≡ p
          → PathFrom (tree_neighbours branches n) n source v (root_path (parents_from (tree_neighbours branches n) n source) v)
      go zero e = absurd (omega (arith, h, path-alone (parents_from (tree_neighbours branches n) n source) v e))
      go (suc p) e =
          root-path (tree_neighbours branches n) n source (neighbours-below branches n) source_in v
          (parent-chained (tree_neighbours branches n) n source (neighbours-below branches n) source_in v (omega (arith, e)))

  -- and one to which no chain leads has one cell at most
  pub path-loose : (v : ℕ) → (Chained (tree_neighbours branches n) source v → ⊥) → length (root_path (parents_from (tree_neighbours branches n) n source) v) ≤ 1
  path-loose v loose = go (get_or (parents_from (tree_neighbours branches n) n source) v 0) refl
    where
      go : (p : ℕ) → get_or (parents_from (tree_neighbours branches n) n source) v 0 ≡ p → length (root_path (parents_from (tree_neighbours branches n) n source) v) ≤ 1
      go zero e = path-alone (parents_from (tree_neighbours branches n) n source) v e
      go (suc p) e = absurd (loose (parent-chained (tree_neighbours branches n) n source (neighbours-below branches n) source_in v (omega (arith, e))))

-- ---- along such a path nothing is put

module _ (limit : ℕ) (fit : ℕ → Bool) (path : List ℕ) where
  strides-off : (n : ℕ) (w : RunWalk) → length path ≤ w.place → strides limit fit path n w ≡ w.marks
  unfolding strides
  strides-off zero w h = refl
  strides-off (suc n) w h = rw (le-ltb w.place (length path) h, strides) refl

  pub run_none : length path ≤ 1 → (marks : List ℕ) → run limit fit path marks ≡ marks
  unfolding run
  run_none h marks = strides-off _ (run_walk marks 0 1) h

  pub tail_none : length path ≤ 1 → (marks : List ℕ) → reinforced limit fit path marks ≡ marks
  unfolding reinforced
  tail_none h marks = rw (le-ltb (last_reset path marks + limit) (end path) (omega arith)) refl

module _ (R : Room) (next : ℕ → List ℕ) (parents forbidden : List ℕ) (tap : Tap) (h : length (path_to R next parents forbidden tap) ≤ 1) where
  pub run-passes : (limit : ℕ) (marks : List ℕ) → run_of R next parents forbidden limit tap marks ≡ marks
  run-passes limit marks = run_none limit (fits R next forbidden (path_to R next parents forbidden tap)) (path_to R next parents forbidden tap) h marks

  pub tail_passes : (marks : List ℕ) → tail_of R next parents forbidden tap marks ≡ marks
  tail_passes marks =
      ask tap.wire
      (λ t. rw t (tail_none tap.tail (fits R next forbidden (path_to R next parents forbidden tap)) (path_to R next parents forbidden tap) h marks))
      (λ f. rw f refl)

-- ---- each repeater between its neighbours

module _ (R : Room) (limit : ℕ) {source : ℕ} (source_in : source < volume R) (branches : List (List ℕ)) (forbidden : List ℕ) where
  abbrev near : ℕ → List ℕ
  near = tree_neighbours branches (volume R)

  abbrev rooted : List ℕ
  rooted = parents_from (tree_neighbours branches (volume R)) (volume R) source

  place-between : (v i : ℕ) → PathFrom near (volume R) source v (root_path rooted v) → PlaceFits R near forbidden (root_path rooted v) i
      → StandsBetween R near rooted (path_cell (root_path rooted v) i)
  place-between v i W F = record {
    before = path_cell (root_path rooted v) (i - 1);
    behind = path_cell (root_path rooted v) (i + 1);
    apart = apart;
    neighbours = two-are (near (path_cell (root_path rooted v) i)) F.two _ _ apart back (path-step W i F.more);
    opposite = are-opposite R _ _ _ F.flat F.straight-on;
    parent_is = path_parent rooted v i F.later (omega (arith, F.more));
    flat = F.flat;
    straight-on = F.straight-on;
  }
    where
      apart : path_cell (root_path rooted v) (i - 1) ≢ path_cell (root_path rooted v) (i + 1)
      apart = none-twice-at (root_path rooted v) W.none-twice (i - 1) (i + 1) (omega arith) F.more

      from : In (path_cell (root_path rooted v) i) (near (path_cell (root_path rooted v) (i - 1)))
      from = let e : i - 1 + 1 ≡ i = omega (arith, F.later) in rw e at (path-step W (i - 1) (omega (arith, F.later, F.more)))

      back : In (path_cell (root_path rooted v) (i - 1)) (near (path_cell (root_path rooted v) i))
      back =
          neighbour-back branches (volume R) (path_cell (root_path rooted v) (i - 1)) (path_cell (root_path rooted v) i)
          (path-below W (neighbours-below branches (volume R)) source_in (i - 1) (omega (arith, F.more))) from

  -- each repeater stands between its two tree neighbours, on no forbidden cell
  pub repeater-stands-between : (taps : List Tap) (v : ℕ) → is_marked (repeater_marks R limit source taps branches forbidden) v ≡ true
      → StandsBetween R (tree_neighbours branches (volume R)) (parents_from (tree_neighbours branches (volume R)) (volume R) source) v × (get_or forbidden v 0 ≢ 1)
  repeater-stands-between taps v e =
      let S = repeater-stands R limit source taps branches forbidden v e in
      let F = place-fits R near forbidden _ S.place S.fit in
      let W = path-from branches source_in S.tap.terminal (omega (arith, F.later, F.more)) in
      (rw S.cell-is at (place-between S.tap.terminal S.place W F), rw S.cell-is at F.allowed)
