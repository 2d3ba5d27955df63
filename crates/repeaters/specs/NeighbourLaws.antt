-- The cells that the masks of a tree lead to are its tree neighbours, in number order.
use Rattle.std.specs.Prelude.{◌≡◌, refl, ◌⊎◌, Bool, false, ◌&&◌, ◌||◌, ltb, length, get_or, replicate, Option, Some, None}
use Rattle.std.proofs.Common.{sym, ap, ◌∙◌, inl, inr, le_of_suc-le-suc, not-suc-le-zero, arith, eqb-true, ltb-true}
use Rattle.std.proofs.Math.Path.{fun_ext}
use Rattle.std.proofs.Math.Logic.{⊎_elim}
use Rattle.std.proofs.Math.Bool.{true, or-false}
use mathlib.Core.List.{List, [], ◌∷◌}
use Prim.Native.Nat.{ℕ, zero, suc, ◌+◌, ◌≤◌, ◌<◌}
use Rattle.std.proofs.Math.Dec.{eqb}
use Rattle.std.proofs.Math.ListN.{get_or-eq_default}
use Rattle.basics.specs.Tests.{either, ask, ask_same, ask_less, and_left, and_right, never, passed}
use Rattle.basics.specs.Lists.{In, every, every_in, in_at}
use Rattle.basics.specs.Counts.{bit}
use Rattle.room.specs.declared.Room.{Room}
use Rattle.room.specs.declared.Pos.{Pos}
use Rattle.room.specs.declared.Move.{Move}
use Rattle.room.specs.Room.{Good, volume, pos_of, by, moves, neighbour_at, neighbour, Step}
use Rattle.room.specs.RoomLaws.{Before, order, cell_pos}
use Rattle.room.specs.MoveLaws.{Moved, leads}
use Rattle.repeaters.specs.Repeaters.{cells_passing, tree_neighbours, is_step, beside_on, neighbouring}
use Rattle.repeaters.specs.Links.{ordered_moves, ordered_move, cons_place, cells_by, linked_cells}
use Rattle.repeaters.specs.Masks.{Steps, AllSteps, mask_of, is_link, step_index, Masks, NowLinked}
use Rattle.repeaters.specs.MaskLaws.{mask_low, mask_rest, masks-same, masks-none, step_back, step_in, step-ordered}

-- ---- two ascending lists with the same members are one

abbrev Ascending : List ℕ → Type 0
Ascending [] = Unit {0}
Ascending (x ∷ xs) = ((w : ℕ) → In w xs → x < w) × Ascending xs

same_head : (x y : ℕ) (xs ys : List ℕ) → Ascending (x ∷ xs) → Ascending (y ∷ ys) → In x (y ∷ ys) → In y (x ∷ xs) → x ≡ y
same_head x y xs ys a b (inl e) j = e
same_head x y xs ys a b (inr i) (inl e) = sym e
same_head x y xs ys a b (inr i) (inr j) = absurd (omega (arith, b.0 x i, a.0 y j))

in_tail : (x y : ℕ) (xs ys : List ℕ) → x ≡ y → Ascending (x ∷ xs) → ((w : ℕ) → In w (x ∷ xs) → In w (y ∷ ys)) → (w : ℕ) → In w xs → In w ys
in_tail x y xs ys e a f w i = ⊎_elim {C = In w ys} (λ q. absurd (omega (arith, a.0 w i, q, e))) (λ j. j) (f w (inr i))

one_list : (l m : List ℕ) → Ascending l → Ascending m → ((w : ℕ) → In w l → In w m) → ((w : ℕ) → In w m → In w l) → l ≡ m
one_list [] [] a b f g = refl
one_list [] (y ∷ ys) a b f g = absurd (g y (inl refl))
one_list (x ∷ xs) [] a b f g = absurd (f x (inl refl))
one_list (x ∷ xs) (y ∷ ys) a b f g =
    let e = same_head x y xs ys a b (f x (inl refl)) (g y (inl refl)) in
    let t = one_list xs ys a.1 b.1 (in_tail x y xs ys e a f) (in_tail y x ys xs (sym e) b g) in
    cc

-- ---- the cells that pass a test, from one on

module _ (p : ℕ → Bool) where
  pub passing_in : (n v w : ℕ) → In w (cells_passing p n v) → (v ≤ w) × (w < v + n) × (p w ≡ true)
  unfolding cells_passing
  passing_in zero v w i = absurd i
  passing_in (suc n) v w i = ask (p v) (λ t. first t (passing_in n (suc v) w) (rw t at i)) (λ f. later (passing_in n (suc v) w (rw f at i)))
    where
      later : (suc v ≤ w) × (w < suc v + n) × (p w ≡ true) → (v ≤ w) × (w < v + suc n) × (p w ≡ true)
      later r = (omega (arith, r.0), omega (arith, r.1), r.2)

      first : p v ≡ true → (In w (cells_passing p n (suc v)) → (suc v ≤ w) × (w < suc v + n) × (p w ≡ true)) → (w ≡ v) ⊎ In w (cells_passing p n (suc v))
          → (v ≤ w) × (w < v + suc n) × (p w ≡ true)
      first t ih (inl e) = (omega arith, omega arith, rw e t)
      first t ih (inr j) = later (ih j)

  pub passing_all : (n v w : ℕ) → v ≤ w → w < v + n → p w ≡ true → In w (cells_passing p n v)
  unfolding cells_passing
  passing_all zero v w h k e = absurd (omega arith)
  passing_all (suc n) v w h k e =
      ask_same w v
      (λ q. let t : p v ≡ true = rw (← q) e in rw t (inl q))
      (λ d. let rest = passing_all n (suc v) w (omega (arith, d)) (omega arith) e in ask (p v) (λ t. rw t (inr rest)) (λ f. rw f rest))

  cells_ascend : (n v : ℕ) → Ascending (cells_passing p n v)
  unfolding cells_passing
  cells_ascend zero v = tt
  cells_ascend (suc n) v = ask (p v) (λ t. rw t ((λ w i. (passing_in n (suc v) w i).0), cells_ascend n (suc v))) (λ f. rw f (cells_ascend n (suc v)))

-- ---- the cells that the bits lead to

-- those where the k-th move is picked by f k
abbrev picked : Room → Pos → (ℕ → Bool) → List Move → List ℕ
picked R p f [] = []
picked R p f (m ∷ ms) = cons_place (either (f zero) (neighbour_at R p m) None) (picked R p (λ k. f (suc k)) ms)

bit-one : (b : Bool) → eqb (bit b) 1 ≡ b
bit-one true = refl
bit-one false = refl

by_mask : (R : Room) (p : Pos) (ms : List Move) (f : ℕ → Bool) → cells_by R p (mask_of (length ms) f) ms ≡ picked R p f ms
unfolding cells_by
by_mask R p [] f = refl
by_mask R p (m ∷ ms) f = rw (mask_low (length ms) f, mask_rest (length ms) f, bit-one (f zero), by_mask R p ms (λ k. f (suc k)))

by-nothing : (R : Room) (p : Pos) (ms : List Move) → cells_by R p 0 ms ≡ []
unfolding cells_by
by-nothing R p [] = refl
by-nothing R p (m ∷ ms) = by-nothing R p ms

cons_in : (w : ℕ) (place : Option ℕ) (vs : List ℕ) → In w (cons_place place vs) → (place ≡ Some w) ⊎ In w vs
cons_in w (Some v) vs (inl e) = inl (ap Some (sym e))
cons_in w (Some v) vs (inr i) = inr i
cons_in w None vs i = inr i

in_cons : (w : ℕ) (place : Option ℕ) (vs : List ℕ) → (place ≡ Some w) ⊎ In w vs → In w (cons_place place vs)
in_cons w (Some v) vs (inl e) = inl (cc)
in_cons w (Some v) vs (inr i) = inr i
in_cons w None vs (inl e) = never (cc)
in_cons w None vs (inr i) = i

-- a place that is picked
record Picked (R : Room) (p : Pos) (f : ℕ → Bool) (ms : List Move) (w : ℕ) : Type 0 where
  pub k : ℕ
  pub within : k < length ms
  pub set : f k ≡ true
  pub there : neighbour_at R p (get_or ms k (by 0 0 0)) ≡ Some w

picked_in : (R : Room) (p : Pos) (ms : List Move) (f : ℕ → Bool) (w : ℕ) → In w (picked R p f ms) → Picked R p f ms w
picked_in R p [] f w i = absurd i
picked_in R p (m ∷ ms) f w i = go (picked_in R p ms (λ k. f (suc k)) w) (cons_in w _ _ i)
  where
    go : (In w (picked R p (λ k. f (suc k)) ms) → Picked R p (λ k. f (suc k)) ms w)
        → (either (f zero) (neighbour_at R p m) None ≡ Some w) ⊎ In w (picked R p (λ k. f (suc k)) ms) → Picked R p f (m ∷ ms) w
    go ih (inl e) = ask (f zero) (λ t. record { k = zero; within = omega arith; set = t; there = rw t at e }) (λ n. never (cc (rw n at e)))
    go ih (inr j) = let r = ih j in record { k = suc r.k; within = omega (arith, r.within); set = r.set; there = r.there }

in_picked : (R : Room) (p : Pos) (ms : List Move) (f : ℕ → Bool) (w k : ℕ) → k < length ms → f k ≡ true
    → neighbour_at R p (get_or ms k (by 0 0 0)) ≡ Some w → In w (picked R p f ms)
in_picked R p [] f w k h t e = absurd (not-suc-le-zero h)
in_picked R p (m ∷ ms) f w zero h t e = rw t (in_cons w (neighbour_at R p m) (picked R p (λ j. f (suc j)) ms) (inl e))
in_picked R p (m ∷ ms) f w (suc k) h t e =
    in_cons w (either (f zero) (neighbour_at R p m) None) (picked R p (λ j. f (suc j)) ms)
    (inr (in_picked R p ms (λ j. f (suc j)) w k (le_of_suc-le-suc h) t e))

-- ---- the moves stand in number order

abbrev earlier : Move → Move → Bool
earlier a b = ltb a.x b.x || (eqb a.x b.x && (ltb a.y b.y || (eqb a.y b.y && ltb a.z b.z)))

abbrev in_order : List Move → Bool
in_order [] = true
in_order (m ∷ ms) = every (earlier m) ms && in_order ms

pub or_cases : (a b : Bool) → a || b ≡ true → (a ≡ true) ⊎ (b ≡ true)
or_cases true b e = inl refl
or_cases false b e = inr e

earlier-before : (p q r : Pos) (a b : Move) → Moved p a q → Moved p b r → earlier a b ≡ true → Before q r
earlier-before p q r a b v w e = go (or_cases _ _ e)
  where
    go : (ltb a.x b.x ≡ true) ⊎ ((eqb a.x b.x && (ltb a.y b.y || (eqb a.y b.y && ltb a.z b.z))) ≡ true) → Before q r
    go (inl h) = inl (omega (arith, v.x_by, w.x_by, ltb-true a.x b.x h))
    go (inr h) =
        let x : q.x ≡ r.x = omega (arith, v.x_by, w.x_by, eqb-true a.x b.x (and_left (eqb a.x b.x) _ h)) in
        inr (
          x,
          ⊎_elim {C = (q.y < r.y) ⊎ ((q.y ≡ r.y) × (q.z < r.z))}
              (λ l. inl (omega (arith, v.y_by, w.y_by, ltb-true a.y b.y l)))
              (λ l. inr (omega (arith, v.y_by, w.y_by, eqb-true a.y b.y (and_left (eqb a.y b.y) _ l)), omega (arith, v.z_by, w.z_by, ltb-true a.z b.z (and_right (eqb a.y b.y) _ l))))
              (or_cases _ _ (and_right (eqb a.x b.x) _ h)),
        )

module _ (R : Room) (u : ℕ) where
  led-order : (a b : Move) (v w : ℕ) → neighbour_at R (pos_of R u) a ≡ Some v → neighbour_at R (pos_of R u) b ≡ Some w
      → earlier a b ≡ true → v < w
  unfolding neighbour
  led-order a b v w e f l =
      let x = leads R u a v e in
      let y = leads R u b w f in
      let o = order R (pos_of R v) (pos_of R w) x.there y.there (earlier-before (pos_of R u) (pos_of R v) (pos_of R w) a b x.moved y.moved l) in
      omega (arith, o, cell_pos R v, cell_pos R w)

  picked_ascend : (ms : List Move) (f : ℕ → Bool) → in_order ms ≡ true → Ascending (picked R (pos_of R u) f ms)
  picked_ascend [] f o = tt
  picked_ascend (m ∷ ms) f o =
      cons (picked_ascend ms (λ k. f (suc k)) (and_right (every (earlier m) ms) (in_order ms) o)) (either (f zero) (neighbour_at R (pos_of R u) m) None) refl
    where
      above : (v : ℕ) → either (f zero) (neighbour_at R (pos_of R u) m) None ≡ Some v → (w : ℕ)
          → In w (picked R (pos_of R u) (λ k. f (suc k)) ms) → v < w
      above v e w i =
          let r = picked_in R (pos_of R u) ms (λ k. f (suc k)) w i in
          let l = every_in (earlier m) ms (and_left (every (earlier m) ms) (in_order ms) o) (get_or ms r.k (by 0 0 0)) (in_at ms r.k (by 0 0 0) r.within) in
          ask (f zero) (λ t. led-order m (get_or ms r.k (by 0 0 0)) v w (rw t at e) r.there l) (λ n. never (cc (rw n at e)))

      cons : Ascending (picked R (pos_of R u) (λ k. f (suc k)) ms) → (place : Option ℕ)
          → either (f zero) (neighbour_at R (pos_of R u) m) None ≡ place → Ascending (cons_place place (picked R (pos_of R u) (λ k. f (suc k)) ms))
      cons rest (Some v) e = (above v e, rest)
      cons rest None e = rest

-- ---- what holds both ways of each two cells that stand next to each other on a branch holds of tree neighbours

abbrev pub BothWays : (ℕ → ℕ → Type 0) → List ℕ → Type 0
BothWays P [] = Unit {0}
BothWays P (a ∷ []) = Unit {0}
BothWays P (a ∷ (b ∷ rest)) = P a b × P b a × BothWays P (b ∷ rest)

both_eq : (a b u v : ℕ) → (eqb a u && eqb b v) ≡ true → (a ≡ u) × (b ≡ v)
both_eq a b u v e = (search passed, search passed)

module _ (P : ℕ → ℕ → Type 0) (u v : ℕ) where
  step-holds : (a b : ℕ) → P a b → P b a → is_step a b u v ≡ true → P u v
  unfolding is_step
  step-holds a b p q e =
      ⊎_elim {C = P u v}
      (λ t. let r = both_eq a b u v t in rw (← r.0, ← r.1) p)
      (λ t. let r = both_eq b a u v t in rw (← r.0, ← r.1) q)
      (or_cases (eqb a u && eqb b v) _ e)

  beside-holds : (branch : List ℕ) → BothWays P branch → beside_on branch u v ≡ true → P u v
  unfolding beside_on
  beside-holds [] s e = never (cc)
  beside-holds (a ∷ []) s e = never (cc)
  beside-holds (a ∷ (b ∷ rest)) s e = ⊎_elim {C = P u v} (step-holds a b s.0 s.1) (beside-holds (b ∷ rest) s.2) (or_cases (is_step a b u v) _ e)

  pub neighbours_hold : (branches : List (List ℕ)) → ((branch : List ℕ) → In branch branches → BothWays P branch) → neighbouring branches u v ≡ true → P u v
  unfolding neighbouring
  neighbours_hold [] s e = never (cc)
  neighbours_hold (branch ∷ branches) s e =
      ⊎_elim {C = P u v}
      (beside-holds branch (s branch (inl refl)))
      (neighbours_hold branches (λ b i. s b (inr i)))
      (or_cases (beside_on branch u v) _ e)

-- ---- tree neighbours are one step apart

module _ {R : Room} (G : Good R) where
  steps-both : (l : List ℕ) → Steps R l → BothWays (Step R) l
  steps-both [] s = tt {0}
  steps-both (a ∷ []) s = tt {0}
  steps-both (a ∷ (b ∷ rest)) s = (s.0, step_back s.0 G, steps-both (b ∷ rest) s.1)

  all_both : (branches : List (List ℕ)) → AllSteps R branches → (branch : List ℕ) → In branch branches → BothWays (Step R) branch
  all_both [] s branch i = absurd i
  all_both (b ∷ bs) s branch (inl e) = rw e (steps-both b s.0)
  all_both (b ∷ bs) s branch (inr i) = all_both bs s.1 branch i

  pub neighbour-step : (branches : List (List ℕ)) → AllSteps R branches → (u v : ℕ) → neighbouring branches u v ≡ true → Step R u v
  neighbour-step branches s u v e = neighbours_hold (Step R) u v branches (all_both branches s) e

  -- ---- and the masks lead to them
  module _ (branches : List (List ℕ)) (S : AllSteps R branches) (links : List ℕ) (M : Masks R (neighbouring branches) links) where
    module _ (u : ℕ) (u-in : u < volume R) where
      by-links : linked_cells R links u ≡ picked R (pos_of R u) (is_link R (neighbouring branches) u) ordered_moves
      unfolding linked_cells ordered_moves moves
      by-links = rw (M.bits u u-in) (by_mask R (pos_of R u) ordered_moves (is_link R (neighbouring branches) u))

      links_in : (w : ℕ) → In w (picked R (pos_of R u) (is_link R (neighbouring branches) u) ordered_moves) → In w (tree_neighbours branches (volume R) u)
      unfolding tree_neighbours neighbour
      links_in w i =
          let r = picked_in R (pos_of R u) ordered_moves (is_link R (neighbouring branches) u) w i in
          let l = leads R u (ordered_move r.k) w r.there in
          let t : neighbouring branches u w ≡ true = rw r.there at r.set in
          passing_all (neighbouring branches u) (volume R) 0 w (omega arith) (omega (arith, l.inside)) t

      in_links : (w : ℕ) → In w (tree_neighbours branches (volume R) u) → In w (picked R (pos_of R u) (is_link R (neighbouring branches) u) ordered_moves)
      unfolding tree_neighbours ordered_moves neighbour moves
      in_links w i =
          let t = (passing_in (neighbouring branches u) (volume R) 0 w i).2 in
          let s = neighbour-step branches S u w t in
          let o = step-ordered s in
          in_picked R (pos_of R u) ordered_moves (is_link R (neighbouring branches) u) w (step_index R u w) (step_in s) (rw o t) o

      near : linked_cells R links u ≡ tree_neighbours branches (volume R) u
      unfolding tree_neighbours ordered_moves moves
      near =
          by-links
          ∙ one_list _ _ (picked_ascend R u ordered_moves (is_link R (neighbouring branches) u) refl) (cells_ascend (neighbouring branches u) (volume R) 0) links_in in_links

    far : (u : ℕ) → volume R ≤ u → linked_cells R links u ≡ tree_neighbours branches (volume R) u
    unfolding linked_cells tree_neighbours
    far u h =
        rw (get_or-eq_default links 0 {n = u} (rw M.long h), by-nothing R (pos_of R u) ordered_moves)
        (one_list [] (cells_passing (neighbouring branches u) (volume R) 0) tt (cells_ascend (neighbouring branches u) (volume R) 0) (λ w i. absurd i)
        (λ w i. absurd (omega (arith, (neighbour-step branches S u w (passing_in (neighbouring branches u) (volume R) 0 w i).2).from_in))))

    linked-neighbours : linked_cells R links ≡ tree_neighbours branches (volume R)
    linked-neighbours = fun_ext (λ u. ask_less u (volume R) (near u) (far u))

-- cells linked from none on are those of the branches
pub tree-linked : {R : Room} → Good R → (branches : List (List ℕ)) → AllSteps R branches → {start links : List ℕ} → start ≡ replicate (volume R) 0
    → NowLinked R (neighbouring branches) start links → linked_cells R links ≡ tree_neighbours branches (volume R)
tree-linked {R} G branches S e J = linked-neighbours G branches S _ (masks-same (λ u v. or-false (neighbouring branches u v)) (J.goes (λ u v. false) (rw e (masks-none R))))
