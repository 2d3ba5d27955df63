-- Laws of the path by predecessors, and of the loops that count and write it.
use Rattle.std.specs.Prelude.{◌≡◌, refl, ◌≢◌, set}
use Rattle.std.proofs.Common.{sym, ◌∙◌, le_of_suc-le-suc, zero-add, length-set, drop-cons, get_or-set_same, drop-set-lt}
use Rattle.std.proofs.Math.Path.{ap}
use mathlib.Core.List.{List, [], ◌∷◌, ◌++◌}
use Prim.Native.Nat.{ℕ, zero, suc, ◌+◌, ◌-◌, ◌≤◌, ◌<◌}
use Rattle.std.proofs.Math.Nat.{sub-zero}
use native.Mathlib.Omega.{arith}
use Rattle.std.proofs.Math.ListN.{length, get_or, drop}
use Rattle.best_first.specs.Search.{trace}
use Rattle.best_first.proofs.Equations.{trace-start, trace-back}
use Rattle.trace.specs.Traces.{PreviousInside}

-- the path has at most n cells
pub trace-short : (n : ℕ) (previous : List ℕ) (v : ℕ) (rest : List ℕ) → length (trace n previous v rest) ≤ n + length rest
unfolding trace
trace-short zero previous v rest = omega arith
trace-short (suc n) previous v rest = go (get_or previous v 0) refl (λ u. trace-short n previous u (v ∷ rest))
  where
    go : (k : ℕ) → get_or previous v 0 ≡ k → ((u : ℕ) → length (trace n previous u (v ∷ rest)) ≤ n + suc (length rest))
        → length (trace (suc n) previous v rest) ≤ suc n + length rest
    go zero e ih = rw (e, trace) (omega arith)
    go (suc u) e ih = rw (e, trace) (omega (arith, ih u))

-- each cell of the path is a cell, as every predecessor is
pub trace-cells : (n : ℕ) (previous : List ℕ) → PreviousInside previous → (v : ℕ) (rest : List ℕ) → v < length previous
    → ((i : ℕ) → i < length rest → get_or rest i 0 < length previous)
    → (i : ℕ) → i < length (trace n previous v rest) → get_or (trace n previous v rest) i 0 < length previous
unfolding trace
trace-cells zero previous L v rest h r = r
trace-cells (suc n) previous L v rest h r = go (get_or previous v 0) refl (λ u. trace-cells n previous L u (v ∷ rest))
  where
    cons : (i : ℕ) → i < length (v ∷ rest) → get_or (v ∷ rest) i 0 < length previous
    cons zero k = h
    cons (suc i) k = r i (le_of_suc-le-suc k)

    go : (k : ℕ) → get_or previous v 0 ≡ k
        → ((u : ℕ) → u < length previous → ((i : ℕ) → i < length (v ∷ rest) → get_or (v ∷ rest) i 0 < length previous)
        → (i : ℕ) → i < length (trace n previous u (v ∷ rest)) → get_or (trace n previous u (v ∷ rest)) i 0 < length previous)
        → (i : ℕ) → i < length (trace (suc n) previous v rest) → get_or (trace (suc n) previous v rest) i 0 < length previous
    go zero e ih = rw (trace-start n previous v rest e) cons
    go (suc u) e ih = rw (trace-back n previous v u rest e) (ih u (omega (arith, L v)) cons)

-- what stands behind the path does not change how many cells lead to v
trace_length : (n : ℕ) (previous : List ℕ) (v : ℕ) (rest : List ℕ) → length (trace n previous v rest) ≡ length (trace n previous v []) + length rest
unfolding trace
trace_length zero previous v rest = omega arith
trace_length (suc n) previous v rest = go (get_or previous v 0) refl (trace_length n previous)
  where
    go : (k : ℕ) → get_or previous v 0 ≡ k → ((u : ℕ) (l : List ℕ) → length (trace n previous u l) ≡ length (trace n previous u []) + length l)
        → length (trace (suc n) previous v rest) ≡ length (trace (suc n) previous v []) + length rest
    go zero e ih = rw (trace-start n previous v rest e, trace-start n previous v [] e) (omega arith)
    go (suc u) e ih = rw (trace-back n previous v u rest e, trace-back n previous v u [] e) (omega (arith, ih u (v ∷ rest), ih u (v ∷ [])))

length_start : (n : ℕ) (previous : List ℕ) (v : ℕ) → get_or previous v 0 ≡ 0 → length (trace (suc n) previous v []) ≡ 1
length_start n previous v e = ap length (trace-start n previous v [] e)

length_back : (n : ℕ) (previous : List ℕ) (v u : ℕ) → get_or previous v 0 ≡ suc u → length (trace (suc n) previous v []) ≡ suc (length (trace n previous u []))
length_back n previous v u e = omega (arith, ap length (trace-back n previous v u [] e), trace_length n previous u (v ∷ []))

-- as much fuel as the path has cells is enough
trace-enough : (n : ℕ) (previous : List ℕ) (v : ℕ) (rest : List ℕ) → trace (length (trace n previous v [])) previous v rest ≡ trace n previous v rest
unfolding trace
trace-enough zero previous v rest = refl
trace-enough (suc n) previous v rest = go (get_or previous v 0) refl (λ u. trace-enough n previous u (v ∷ rest))
  where
    go : (k : ℕ) → get_or previous v 0 ≡ k → ((u : ℕ) → trace (length (trace n previous u [])) previous u (v ∷ rest) ≡ trace n previous u (v ∷ rest))
        → trace (length (trace (suc n) previous v [])) previous v rest ≡ trace (suc n) previous v rest
    go zero e ih = rw (length_start n previous v e, trace-start n previous v rest e, trace-start 0 previous v rest e)
    go (suc u) e ih =
        rw (length_back n previous v u e, trace-back n previous v u rest e, trace-back (length (trace n previous u [])) previous v u rest e) (ih u)

-- ---- the loop that counts

pub record Counting (previous : List ℕ) (most from n v : ℕ) : Type 0 where
  pub within : n ≤ most
  pub inside : v < length previous
  pub same : n + length (trace (most - n) previous v []) ≡ length (trace most previous from [])

module _ {previous : List ℕ} {most from : ℕ} where
  pub counting_none : from < length previous → Counting previous most from 0 from
  counting_none h = record { within = omega arith; inside = h; same = rw (sub-zero, zero-add) }

  module _ {n v : ℕ} (I : Counting previous most from n v) where
    left : n < most → most - n ≡ suc (most - (n + 1))
    left h = omega arith

    pub counting_start : n < most → get_or previous v 0 ≡ 0 → n + 1 ≡ length (trace most previous from [])
    counting_start h e = omega (arith, I.same, ap (λ (k : ℕ). length (trace k previous v [])) (left h), length_start (most - (n + 1)) previous v e)

    pub counting_next : PreviousInside previous → n < most → get_or previous v 0 ≢ 0 → Counting previous most from (n + 1) (get_or previous v 0 - 1)
    counting_next L h e =
        let s : get_or previous v 0 ≡ suc (get_or previous v 0 - 1) = omega arith in
        record {
          within = omega arith;
          inside = omega (arith, L v);
          same = omega (arith, I.same, ap (λ (k : ℕ). length (trace k previous v [])) (left h), length_back (most - (n + 1)) previous v (get_or previous v 0 - 1) s);
        }

    pub counting_all : most ≤ n → n ≡ length (trace most previous from [])
    unfolding trace
    counting_all h =
        let z : most - n ≡ 0 = omega arith in
        let e : n + length (trace 0 previous v []) ≡ length (trace most previous from []) = rw z at I.same in
        omega arith

-- ---- the loop that writes

-- `left` cells are still to be written, from v back; `written` stand behind them
pub record Writing (previous : List ℕ) (path : List ℕ) (path₀ : List ℕ) (count left v : ℕ) (whole : List ℕ) : Type 0 where
  pub fuel : ℕ
  pub cells : left ≡ length (trace fuel previous v [])
  pub inside : v < length previous
  pub kept : length path ≡ length path₀
  pub fits : left ≤ length path
  pub written : List ℕ
  pub behind : drop left path ≡ written ++ drop count path₀
  pub same : trace left previous v written ≡ whole

module _ {previous path₀ whole : List ℕ} {count : ℕ} where
  pub writing_none : (most from : ℕ) → count ≡ length (trace most previous from []) → from < length previous → count ≤ length path₀
      → whole ≡ trace most previous from [] → Writing previous path₀ path₀ count count from whole
  writing_none most from e h r w = record {
    fuel = most;
    cells = e;
    inside = h;
    kept = refl;
    fits = r;
    written = [];
    behind = refl;
    same = rw e (trace-enough most previous from []) ∙ sym w;
  }

  module _ {path : List ℕ} {left v : ℕ} (I : Writing previous path path₀ count left v whole) (h : 0 < left) where
    abbrev k : ℕ
    k = left - 1

    behind-now : drop k (set path k v) ≡ (v ∷ I.written) ++ drop count path₀
    behind-now =
        let e : suc k ≡ left = omega arith in
        let r : k < length (set path k v) = rw length-set (omega (arith, I.fits)) in
        drop-cons (set path k v) k 0 r ∙ rw (get_or-set_same path k v 0 (omega (arith, I.fits)), drop-set-lt (suc k) path k v (omega arith), e) (ap (λ (l : List ℕ). v ∷ l) I.behind)

    suc_k : left ≡ suc k
    suc_k = omega arith

    kept-now : length (set path k v) ≡ length path₀
    kept-now = length-set path k v ∙ I.kept

    fits-now : k ≤ length (set path k v)
    fits-now = rw length-set (omega (arith, I.fits))

    -- the first cell has no predecessor, and is the last to be written
    pub writing_first : get_or previous v 0 ≡ 0 → Writing previous (set path k v) path₀ count k v whole
    unfolding trace
    writing_first e = go I.fuel I.cells
      where
        go : (f : ℕ) → left ≡ length (trace f previous v []) → Writing previous (set path k v) path₀ count k v whole
        go zero c = absurd (omega arith)
        go (suc f) c =
            let z : k ≡ 0 = omega (arith, c, length_start f previous v e) in
            let w : trace (suc k) previous v I.written ≡ whole = rw suc_k at I.same in
            record {
              fuel = 0;
              cells = z;
              inside = I.inside;
              kept = kept-now;
              fits = fits-now;
              written = v ∷ I.written;
              behind = behind-now;
              same = rw z (sym (trace-start k previous v I.written e) ∙ w);
            }

    pub writing_next : PreviousInside previous → get_or previous v 0 ≢ 0 → Writing previous (set path k v) path₀ count k (get_or previous v 0 - 1) whole
    unfolding trace
    writing_next L e = go I.fuel I.cells
      where
        s : get_or previous v 0 ≡ suc (get_or previous v 0 - 1)
        s = omega arith

        go : (f : ℕ) → left ≡ length (trace f previous v []) → Writing previous (set path k v) path₀ count k (get_or previous v 0 - 1) whole
        go zero c = absurd (omega arith)
        go (suc f) c =
            let w : trace (suc k) previous v I.written ≡ whole = rw suc_k at I.same in
            record {
              fuel = f;
              cells = omega (arith, c, length_back f previous v (get_or previous v 0 - 1) s);
              inside = omega (arith, L v, I.inside);
              kept = kept-now;
              fits = fits-now;
              written = v ∷ I.written;
              behind = behind-now;
              same = sym (trace-back k previous v (get_or previous v 0 - 1) I.written s) ∙ w;
            }

  pub writing_all : {path : List ℕ} {v : ℕ} → Writing previous path path₀ count 0 v whole → path ≡ whole ++ drop count path₀
  unfolding trace
  writing_all I = I.behind ∙ ap (λ (l : List ℕ). l ++ drop count path₀) I.same
