-- Laws of branches: their cells and their length, what all but the last cell are, sheet order kept, and where a branch stands by the lengths.
use Rattle.std.specs.Prelude.{◌≡◌, refl, ℕ, zero, suc, ◌+◌, ◌-◌, ◌≤◌, ◌<◌, eqb, length, get_or, take, drop, set, replicate}
use Rattle.std.proofs.Common.{sym, ap, ◌∙◌, inl, inr, arith, length-append, length-drop, length-set, take-append-drop, take-suc, take_at, drop_at, length-take-le, get_or-append-add, get_or-set_same, get_or-set_other}
use mathlib.Core.List.{List, [], ◌∷◌, ◌++◌, map, reverse, append_assoc, append-nil, reverse-cons}
use Rattle.std.proofs.lemmas.List.{length-map, length-replicate, get_or-replicate, take-append-le, set_split}
use Rattle.std.proofs.Math.ListN.{get_or-append, get_or-map}
use Rattle.std.proofs.Math.Seq.{take-append_seam, split_at, take-length}
use Rattle.basics.specs.Tests.{ask, ask_same, ask_less}
use Rattle.basics.specs.Lists.{In, joined}
use Rattle.job_sheet.specs.Sheet.{max_sinks}
use Rattle.ends.specs.declared.Tap.{Tap}
use Rattle.branches.specs.declared.BranchLengths.{BranchLengths}
use Rattle.branches.specs.Branches.{branch_of, all_but_last, inserted, sum, branch_lengths, lengths_in, cut_into, SheetOrder, LengthsOf}
use Rattle.branches.specs.LoopLaws.{sum_append}
use Rattle.branches.specs.WriteLaws.{branch-long}
use Rattle.routing_resources.specs.Marks.{CellsBelow}

-- ---- the cells of a branch

module _ {n : ℕ} where
  pub below_append : {xs ys : List ℕ} → CellsBelow n xs → CellsBelow n ys → CellsBelow n (xs ++ ys)
  below_append {xs = xs} {ys = ys} p q = record { below = λ i h. ask_less i (length xs) (first i) (later i h) }
    where
      first : (i : ℕ) → i < length xs → get_or (xs ++ ys) i 0 < n
      first i h = rw (get_or-append xs ys 0 i h) (p.below i h)

      later : (i : ℕ) → i < length (xs ++ ys) → length xs ≤ i → get_or (xs ++ ys) i 0 < n
      later i h l =
          let j : ℕ = i - length xs in
          let e : i ≡ length xs + j = omega arith in
          let a : get_or (xs ++ ys) i 0 ≡ get_or ys j 0 = ap (λ k. get_or (xs ++ ys) k 0) e ∙ get_or-append-add xs ys j 0 in
          rw a (q.below j (omega (arith, length-append xs ys)))

  below_none : CellsBelow n []
  below_none = record { below = λ i h. absurd (omega arith) }

  below_one : (cell : ℕ) → cell < n → CellsBelow n (cell ∷ [])
  below_one cell h = record { below = one }
    where
      one : (i : ℕ) → i < 1 → get_or (cell ∷ []) i 0 < n
      one zero k = h
      one (suc i) k = absurd (omega arith)

  below_rest : {cell : ℕ} {cells : List ℕ} → CellsBelow n (cell ∷ cells) → CellsBelow n cells
  below_rest p = record { below = λ i h. p.below (suc i) (omega arith) }

  below_reverse : (cells : List ℕ) → CellsBelow n cells → CellsBelow n (reverse cells)
  below_reverse [] p = below_none
  below_reverse (cell ∷ cells) p = rw (reverse-cons cell cells) (below_append (below_reverse cells (below_rest p)) (below_one cell (p.below 0 (omega arith))))

  pub branch-below : (t : Tap) (path : List ℕ) → CellsBelow n path → t.terminal < n → CellsBelow n (branch_of t path)
  unfolding branch_of
  branch-below t path p h = below_append (below_reverse path p) (ask (eqb t.terminal t.approach) (λ e. rw e below_none) (λ f. rw f (below_one t.terminal h)))

  pub but_last_below : (cells : List ℕ) → CellsBelow n cells → CellsBelow n (all_but_last cells)
  unfolding all_but_last
  but_last_below [] p = p
  but_last_below (last ∷ []) p = below_none
  but_last_below (cell ∷ (next ∷ rest)) p = below_append {xs = cell ∷ []} (below_one cell (p.below 0 (omega arith))) (but_last_below (next ∷ rest) (below_rest p))

pub branch-some : (t : Tap) (path : List ℕ) → 1 ≤ length path → 1 ≤ length (branch_of t path)
branch-some t path h = omega (arith, branch-long t path)

-- a branch has at most one cell more than its path
pub branch-short : (t : Tap) (path : List ℕ) → length (branch_of t path) ≤ length path + 1
branch-short t path = ask (eqb t.terminal t.approach) (λ e. omega (arith, rw e at (branch-long t path))) (λ f. omega (arith, rw f at (branch-long t path)))

-- ---- all but the last cell

pub but_last_in : (cells : List ℕ) (v : ℕ) → In v (all_but_last cells) → In v cells
unfolding all_but_last
but_last_in [] v i = i
but_last_in (last ∷ []) v i = absurd i
but_last_in (cell ∷ (next ∷ rest)) v (inl e) = inl e
but_last_in (cell ∷ (next ∷ rest)) v (inr i) = inr (but_last_in (next ∷ rest) v i)

but_last_take : (cells : List ℕ) → take (length cells - 1) cells ≡ all_but_last cells
unfolding all_but_last
but_last_take [] = refl
but_last_take (last ∷ []) = refl
but_last_take (cell ∷ (next ∷ rest)) =
    let e : suc (suc (length rest)) - 1 ≡ suc (suc (length rest) - 1) = omega arith in
    ap (λ n. take n (cell ∷ (next ∷ rest))) e ∙ ap (λ l. cell ∷ l) (but_last_take (next ∷ rest))

-- ---- sheet order

joined_append : (bs cs : List (List ℕ)) → joined (bs ++ cs) ≡ joined bs ++ joined cs
joined_append [] cs = refl
joined_append (b ∷ bs) cs = ap (λ l. b ++ l) (joined_append bs cs) ∙ sym (append_assoc b (joined bs) (joined cs))

module _ (bs : List (List ℕ)) (k : ℕ) (h : k < length bs) where
  abbrev earlier : List ℕ
  earlier = joined (take k bs)

  abbrev later_ones : List ℕ
  later_ones = joined (drop (suc k) bs)

  -- where the k-th sink has no branch yet
  pub joined-none : get_or bs k [] ≡ [] → joined bs ≡ earlier ++ later_ones
  joined-none e = ap joined (split_at bs k [] h) ∙ joined_append (take k bs) (get_or bs k [] ∷ drop (suc k) bs) ∙ ap (λ b. earlier ++ (b ++ later_ones)) e

  pub joined-set : (b : List ℕ) → joined (set bs k b) ≡ earlier ++ (b ++ later_ones)
  joined-set b = ap joined (set_split bs k b h) ∙ joined_append (take k bs) (b ∷ drop (suc k) bs)

  module _ (none : get_or bs k [] ≡ []) {used : ℕ} {buffer : List ℕ} (O : SheetOrder bs used buffer) where
    used-is : used ≡ length earlier + length later_ones
    used-is = sym (length-take-le used buffer O.within) ∙ ap length (O.in_order ∙ joined-none none) ∙ length-append earlier later_ones

    -- the place of the k-th sink's branch is among the cells in use
    pub place-within : length earlier ≤ used
    place-within = omega (arith, used-is)

    module _ (b : List ℕ) (fits : used + length b ≤ length buffer) where
      abbrev behind : List ℕ
      behind = drop (used + length b) buffer

      parts : inserted (length earlier) used b buffer ≡ (earlier ++ (b ++ later_ones)) ++ behind
      parts =
          let at : ℕ = length earlier in
          let rest : List ℕ = drop used buffer in
          let whole : buffer ≡ earlier ++ (later_ones ++ rest) =
          sym (take-append-drop used buffer) ∙ ap (λ l. l ++ rest) (O.in_order ∙ joined-none none) ∙ append_assoc earlier later_ones rest in
          let n : length later_ones ≡ used - at = omega (arith, used-is) in
          let front : take at buffer ≡ earlier = ap (take at) whole ∙ take_at earlier (later_ones ++ rest) at refl in
          let from : drop at buffer ≡ later_ones ++ rest = ap (drop at) whole ∙ drop_at earlier (later_ones ++ rest) at refl in
          let moved : take (used - at) (drop at buffer) ≡ later_ones = ap (take (used - at)) from ∙ take_at later_ones rest (used - at) n in
          (λ i. front i ++ (b ++ (moved i ++ behind)))
          ∙ ap (λ l. earlier ++ l) (sym (append_assoc b later_ones behind))
          ∙ sym (append_assoc earlier (b ++ later_ones) behind)

      parts-long : length (earlier ++ (b ++ later_ones)) ≡ used + length b
      parts-long = omega (arith, length-append earlier (b ++ later_ones), length-append b later_ones, used-is)

      -- a branch put in at its place is in sheet order
      pub order-kept : SheetOrder (set bs k b) (used + length b) (inserted (length earlier) used b buffer)
      order-kept = record {
        within = omega (arith, ap length parts, length-append (earlier ++ (b ++ later_ones)) behind, parts-long);
        in_order = ap (take (used + length b)) parts ∙ take_at (earlier ++ (b ++ later_ones)) behind (used + length b) parts-long ∙ sym (joined-set b);
      }

      -- and what is behind stays
      pub behind-kept : drop (used + length b) (inserted (length earlier) used b buffer) ≡ drop (used + length b) buffer
      behind-kept = ap (drop (used + length b)) parts ∙ drop_at (earlier ++ (b ++ later_ones)) behind (used + length b) parts-long

      pub inserted-long : length (inserted (length earlier) used b buffer) ≡ length buffer
      inserted-long =
          ap length parts ∙ length-append (earlier ++ (b ++ later_ones)) behind ∙ omega (arith, parts-long, length-drop (used + length b) buffer)

-- where a branch stands once it is put in, and all but its last cell
module _ (b buffer : List ℕ) (at used : ℕ) (h : at ≤ length buffer) where
  from_place : drop at (inserted at used b buffer) ≡ b ++ (take (used - at) (drop at buffer) ++ drop (used + length b) buffer)
  from_place = drop_at (take at buffer) (b ++ (take (used - at) (drop at buffer) ++ drop (used + length b) buffer)) at (length-take-le at buffer h)

  pub branch-at : take (length b) (drop at (inserted at used b buffer)) ≡ b
  branch-at = ap (take (length b)) from_place ∙ take-append_seam b (take (used - at) (drop at buffer) ++ drop (used + length b) buffer)

  pub but_last_at : take (length b - 1) (drop at (inserted at used b buffer)) ≡ all_but_last b
  but_last_at =
      ap (take (length b - 1)) from_place
      ∙ take-append-le (length b - 1) b (take (used - at) (drop at buffer) ++ drop (used + length b) buffer) (omega arith)
      ∙ but_last_take b

-- ---- the lengths

pub joined-place : (bs : List (List ℕ)) (each : List ℕ) → LengthsOf bs each → (k : ℕ) → k ≤ length bs → sum (take k each) ≡ length (joined (take k bs))
unfolding sum
joined-place bs each L zero h = refl
joined-place bs each L (suc k) h =
    let a : take (suc k) each ≡ take k each ++ (get_or each k 0 ∷ []) = take-suc each k 0 (omega (arith, L.all)) in
    let b : take (suc k) bs ≡ take k bs ++ (get_or bs k [] ∷ []) = take-suc bs k [] h in
    let s : sum (take (suc k) each) ≡ sum (take k each) + (get_or each k 0 + 0) = ap sum a ∙ sum_append (take k each) (get_or each k 0 ∷ []) in
    let j : joined (take (suc k) bs) ≡ joined (take k bs) ++ (get_or bs k [] ++ []) = ap joined b ∙ joined_append (take k bs) (get_or bs k [] ∷ []) in
    let l : length (get_or bs k [] ++ []) ≡ length (get_or bs k []) = ap length (append-nil (get_or bs k [])) in
    omega (arith, ap length j, length-append (joined (take k bs)) (get_or bs k [] ++ []), L.each-is k h, joined-place bs each L k (omega arith))

-- the lengths that are given out with the branches are theirs
pub lengths_theirs : (bs : List (List ℕ)) → LengthsOf bs (branch_lengths bs).each
lengths_theirs bs =
    let behind : List ℕ = replicate (max_sinks - length bs) 0 in
    let long = length-map bs length in
    record {
      all = omega (arith, length-append (map length bs) behind, long);
      each-is = λ i h. get_or-append (map length bs) behind 0 i (rw long h) ∙ get_or-map length bs i [];
    }

-- as many lengths as are counted
pub lengths-count : (L : BranchLengths) → L.count ≤ length L.each → length (lengths_in L) ≡ L.count
lengths-count L h = length-take-le L.count L.each h

-- all branches together
pub lengths-sum : (bs : List (List ℕ)) (L : BranchLengths) → LengthsOf bs L.each → length bs ≡ L.count → sum (lengths_in L) ≡ length (joined bs)
lengths-sum bs L H n = rw (← n) (joined-place bs L.each H (length bs) (omega arith) ∙ ap (λ l. length (joined l)) (take-length bs))

pub lengths-set : {bs : List (List ℕ)} {each : List ℕ} → LengthsOf bs each → (k : ℕ) → k < length bs → (b : List ℕ) → LengthsOf (set bs k b) (set each k (length b))
lengths-set {bs = bs} {each = each} L k h b = record {
  all = omega (arith, length-set bs k b, length-set each k (length b), L.all);
  each-is = λ i g. at i (omega (arith, length-set bs k b));
}
  where
    at : (i : ℕ) → i < length bs → get_or (set each k (length b)) i 0 ≡ length (get_or (set bs k b) i [])
    at i g =
        ask_same i k
        (λ e. rw e (get_or-set_same each k (length b) 0 (omega (arith, L.all)) ∙ ap length (sym (get_or-set_same bs k b [] h))))
        (λ d. get_or-set_other each k i (length b) 0 d ∙ L.each-is i g ∙ ap length (sym (get_or-set_other bs k i b [] d)))

-- branches one after another, cut by their lengths
pub cut-joined : (bs : List (List ℕ)) (rest : List ℕ) → cut_into (map length bs) (joined bs ++ rest) ≡ bs
unfolding cut_into
cut-joined [] rest = refl
cut-joined (b ∷ bs) rest =
    let e : (b ++ joined bs) ++ rest ≡ b ++ (joined bs ++ rest) = append_assoc b (joined bs) rest in
    rw (e, take_at b (joined bs ++ rest) (length b) refl, drop_at b (joined bs ++ rest) (length b) refl) (ap (λ l. b ∷ l) (cut-joined bs rest))

-- ---- no sink has a branch yet

pub joined-nothing : (n : ℕ) → joined (replicate {A = List ℕ} n []) ≡ []
joined-nothing zero = refl
joined-nothing (suc n) = joined-nothing n

pub order-first : (n : ℕ) (buffer : List ℕ) → SheetOrder (replicate n []) 0 buffer
order-first n buffer = record { within = omega arith; in_order = sym (joined-nothing n) }

pub lengths-first : (n m : ℕ) → n ≤ m → LengthsOf (replicate n []) (replicate m 0)
lengths-first n m h =
    let a = length-replicate {A = List ℕ} n [] in
    let b = length-replicate {A = ℕ} m 0 in
    record {
      all = omega arith;
      each-is = λ i g. get_or-replicate {A = ℕ} m i 0 0 (omega arith) ∙ ap length (sym (get_or-replicate {A = List ℕ} n i [] [] (omega arith)));
    }
