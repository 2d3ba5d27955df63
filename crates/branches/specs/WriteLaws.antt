-- Laws of the writer: a path written from its end, the terminal added, a part moved before another, a branch put in between.
use Rattle.std.specs.Prelude.{◌≡◌, refl, ℕ, suc, ◌+◌, ◌-◌, ◌≤◌, ◌<◌, get_or, take, drop, set}
use Rattle.std.proofs.Common.{sym, ◌∙◌, arith, length-drop, length-set, drop_of_length-le, drop-cons, drop-drop, take-add, length-take-le, take_at, drop_at, eq-eqb, ne_eqb}
use Rattle.std.proofs.Math.Path.{ap}
use mathlib.Core.List.{List, [], ◌∷◌, ◌++◌, reverse, append_assoc, append-nil, reverse-cons, reverse-append, reverse-reverse}
use Rattle.std.proofs.Math.ListN.{length, length-append}
use Rattle.std.proofs.lemmas.List.{length-reverse, set_at}
use Rattle.std.proofs.Math.Seq.{drop-length, append_snoc, take-length}
use Rattle.basics.specs.Lists.{drop_next}
use Rattle.ends.specs.declared.Tap.{Tap}
use Rattle.branches.specs.Branches.{terminal_added, branch_of, branch_length, inserted}

-- ---- a path written from its end

pub record Reversing (path start : List ℕ) (i : ℕ) (out : List ℕ) : Type 0 where
  pub so_far : i ≤ length path
  pub is : out ≡ reverse (drop (length path - i) path) ++ drop i start
  pub kept : length out ≡ length start

pub reversing_none : (path start : List ℕ) → Reversing path start 0 start
reversing_none path start =
    let z : length path - 0 ≡ length path = omega arith in
    record { so_far = omega arith; is = sym (ap (λ l. reverse l ++ start) (ap (λ n. drop n path) z ∙ drop-length path)); kept = refl }

module _ {path start out : List ℕ} {i : ℕ} (fits : length path ≤ length start) (R : Reversing path start i out) where
  pub reversing_next : i < length path → Reversing path start (i + 1) (set out i (get_or path (length path - 1 - i) 0))
  reversing_next h =
      let j : ℕ = length path - (i + 1) in
      let x : ℕ = get_or path j 0 in
      let p : List ℕ = reverse (drop (length path - i) path) in
      let b : suc j ≡ length path - i = omega arith in
      let a : length path - 1 - i ≡ j = omega arith in
      let n : length p ≡ i = length-reverse (drop (length path - i) path) ∙ length-drop (length path - i) path ∙ omega (arith, R.so_far) in
      let more : reverse (drop j path) ≡ p ++ (x ∷ []) =
      ap reverse (drop-cons path j 0 (omega arith) ∙ ap (λ m. x ∷ drop m path) b) ∙ reverse-cons x (drop (length path - i) path) in
      let rest : drop i start ≡ get_or start i 0 ∷ drop (i + 1) start = drop_next start i 0 (omega arith) in
      record {
        so_far = omega arith;
        is =
            ap (λ m. set out i (get_or path m 0)) a
            ∙ ap (λ l. set l i x) (R.is ∙ ap (λ l. p ++ l) rest)
            ∙ set_at p (get_or start i 0) (drop (i + 1) start) x i n
            ∙ sym (append_snoc p x (drop (i + 1) start))
            ∙ ap (λ l. l ++ drop (i + 1) start) (sym more);
        kept = length-set out i (get_or path (length path - 1 - i) 0) ∙ R.kept;
      }

  pub reversing_done : length path ≤ i → out ≡ reverse path ++ drop (length path) start
  reversing_done h =
      let e : i ≡ length path = omega (arith, R.so_far) in
      let z : length path - length path ≡ 0 = omega arith in
      R.is ∙ rw (e, z)

-- ---- the terminal added

module _ (t : Tap) (path : List ℕ) where
  branch_same : t.terminal ≡ t.approach → branch_of t path ≡ reverse path
  unfolding branch_of
  branch_same e = rw (eq-eqb t.terminal t.approach e) (append-nil (reverse path))

  branch-more : (t.terminal ≡ t.approach → ⊥) → branch_of t path ≡ reverse path ++ (t.terminal ∷ [])
  unfolding branch_of
  branch-more n = rw (ne_eqb t.terminal t.approach n)

  pub branch-long : length (branch_of t path) ≡ branch_length t (length path)
  unfolding branch_of
  branch-long = length-append (reverse path) (terminal_added t) ∙ ap (λ n. n + length (terminal_added t)) (length-reverse path)

  pub path-fits : (n : ℕ) → length (branch_of t path) ≤ n → length path ≤ n
  path-fits n h = omega (arith, branch-long)

  pub terminal_fits : (n : ℕ) → length (branch_of t path) ≤ n → (t.terminal ≡ t.approach → ⊥) → length path < n
  terminal_fits n h d = omega (arith, ap length (branch-more d), length-append (reverse path) (t.terminal ∷ []), length-reverse path)

  module _ (out now : List ℕ) (e : now ≡ reverse path ++ drop (length path) out) where
    pub written_same : t.terminal ≡ t.approach → now ≡ branch_of t path ++ drop (length (branch_of t path)) out
    written_same q = e ∙ sym (ap (λ l. l ++ drop (length l) out) (branch_same q) ∙ ap (λ n. reverse path ++ drop n out) (length-reverse path))

    pub written-more : (t.terminal ≡ t.approach → ⊥) → length path < length out
        → set now (length path) t.terminal ≡ branch_of t path ++ drop (length (branch_of t path)) out
    written-more d h =
        let r : List ℕ = reverse path in
        let n : length r ≡ length path = length-reverse path in
        let rest = drop (suc (length path)) out in
        let long : length (branch_of t path) ≡ suc (length path) = ap length (branch-more d) ∙ length-append r (t.terminal ∷ []) ∙ omega arith in
        ap (λ l. set l (length path) t.terminal) (e ∙ ap (λ l. r ++ l) (drop-cons out (length path) 0 h))
        ∙ set_at r (get_or out (length path) 0) rest t.terminal (length path) n
        ∙ sym (append_snoc r t.terminal rest)
        ∙ sym (λ i. branch-more d i ++ drop (long i) out)

-- ---- a part moved before another

-- the part from a place to the very end, and what is behind it
part_to_end : (l : List ℕ) (n : ℕ) → take (length l - n) (drop n l) ≡ drop n l
part_to_end l n = ap (λ m. take m (drop n l)) (sym (length-drop n l)) ∙ take-length (drop n l)

none-behind : (l : List ℕ) (n : ℕ) → drop (length l - n) (drop n l) ≡ []
none-behind l n = let e : length (drop n l) ≤ length l - n = omega (arith, length-drop n l) in drop_of_length-le (drop n l) e

pub rotated : (cells : List ℕ) (mid : ℕ) → mid ≤ length cells → (front back whole halves turned : List ℕ)
    → front ≡ reverse (take mid cells) → halves ≡ front ++ drop mid cells → back ≡ reverse (take (length halves - mid) (drop mid halves))
    → turned ≡ take mid halves ++ (back ++ drop (length halves - mid) (drop mid halves)) → whole ≡ reverse turned
    → whole ≡ drop mid cells ++ take mid cells
rotated cells mid h front back whole halves turned f a b t w =
    let x : List ℕ = take mid cells in
    let y : List ℕ = drop mid cells in
    let n : length front ≡ mid = ap length f ∙ length-reverse x ∙ length-take-le mid cells h in
    let d : drop mid halves ≡ y = ap (drop mid) a ∙ drop_at front y mid n in
    let g : take mid halves ≡ reverse x = ap (take mid) a ∙ take_at front y mid n ∙ f in
    let k : back ≡ reverse y = b ∙ ap reverse (part_to_end halves mid ∙ d) in
    let z : drop (length halves - mid) (drop mid halves) ≡ [] = none-behind halves mid in
    let both : turned ≡ reverse x ++ reverse y = t ∙ (λ i. g i ++ (k i ++ z i)) ∙ ap (λ l. reverse x ++ l) (append-nil (reverse y)) in
    w ∙ ap reverse both ∙ reverse-append (reverse x) (reverse y) ∙ (λ i. reverse-reverse y i ++ reverse-reverse x i)

moved_before : (p q b t buffer turned : List ℕ) (at m n : ℕ) → length p ≡ at → length q ≡ m → n ≡ m + length b → buffer ≡ p ++ (q ++ (b ++ t))
    → turned ≡ drop m (take n (drop at buffer)) ++ take m (take n (drop at buffer))
    → take at buffer ++ (turned ++ drop n (drop at buffer)) ≡ p ++ (b ++ (q ++ t))
moved_before p q b t buffer turned at m n lp lq ln e r =
    let d : drop at buffer ≡ (q ++ b) ++ t = ap (drop at) e ∙ drop_at p (q ++ (b ++ t)) at lp ∙ sym (append_assoc q b t) in
    let l : length (q ++ b) ≡ n = length-append q b ∙ omega arith in
    let part : take n (drop at buffer) ≡ q ++ b = ap (take n) d ∙ take_at (q ++ b) t n l in
    let behind : drop n (drop at buffer) ≡ t = ap (drop n) d ∙ drop_at (q ++ b) t n l in
    let swapped : turned ≡ b ++ q =
    r ∙ (λ i. drop m (part i) ++ take m (part i)) ∙ (λ i. drop_at q b m lq i ++ take_at q b m lq i) in
    let front : take at buffer ≡ p = ap (take at) e ∙ take_at p (q ++ (b ++ t)) at lp in
    (λ i. front i ++ (swapped i ++ behind i)) ∙ ap (λ l. p ++ l) (append_assoc b q t)

-- the branch is written behind the cells in use, and then moved to its place
module _ (buffer branch : List ℕ) (at used : ℕ) (h : at ≤ used) (fits : used + length branch ≤ length buffer) where
  module _ (written after : List ℕ) (w : written ≡ branch ++ drop (length branch) (take (length buffer - used) (drop used buffer))) (a : after ≡ take used buffer ++ (written ++ drop (length buffer - used) (drop used buffer))) where
    written_behind : after ≡ take at buffer ++ (take (used - at) (drop at buffer) ++ (branch ++ drop (used + length branch) buffer))
    written_behind =
        let p : List ℕ = take at buffer in
        let q : List ℕ = take (used - at) (drop at buffer) in
        let s : at + (used - at) ≡ used = omega arith in
        let u : take used buffer ≡ p ++ q = ap (λ n. take n buffer) (sym s) ∙ take-add at (used - at) buffer in
        let v : written ≡ branch ++ drop (used + length branch) buffer = w ∙ ap (λ l. branch ++ drop (length branch) l) (part_to_end buffer used) ∙ ap (λ l. branch ++ l) (drop-drop (length branch) used buffer) in
        let z : written ++ drop (length buffer - used) (drop used buffer) ≡ written = ap (λ l. written ++ l) (none-behind buffer used) ∙ append-nil written in
        a ∙ (λ i. u i ++ (z ∙ v) i) ∙ append_assoc p q (branch ++ drop (used + length branch) buffer)

    pub inserted-is : (count : ℕ) → count ≡ length branch → (turned : List ℕ)
        → turned ≡ drop (used - at) (take (used + count - at) (drop at after)) ++ take (used - at) (take (used + count - at) (drop at after))
        → take at after ++ (turned ++ drop (used + count - at) (drop at after)) ≡ inserted at used branch buffer
    inserted-is count c turned r =
        moved_before (take at buffer) (take (used - at) (drop at buffer)) branch (drop (used + length branch) buffer) after turned at (used - at) (used + count - at)
        (length-take-le at buffer (omega arith))
        (length-take-le (used - at) (drop at buffer) (rw (length-drop at buffer) (omega arith)))
        (omega arith)
        written_behind r
