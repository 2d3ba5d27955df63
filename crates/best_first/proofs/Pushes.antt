-- With a consistent estimate the moves of a cell are tried but once, and those of the goal never: so many pushes are the most.
use Rattle.std.specs.Prelude.{◌≡◌, refl, List, [], ℕ, zero, suc, ◌+◌, ◌-◌, ◌*◌, ◌≤◌, ◌<◌, length, set}
use Rattle.std.proofs.Common.{sym, ap, ◌∙◌, zero-le, arith}
use Rattle.std.proofs.Math.ListN.{get_or}
use Rattle.basics.specs.Sums.{sum_below, sum_le, sum_same, sum_more, single, single-most, Single, there, elsewhere, at-single}
use Rattle.best_first.specs.Search.{Graph, State, Taken, best_first}
use Rattle.best_first.specs.Ways.{Sound, Consistent}
use Rattle.best_first.specs.Statements.{Taking}
use Rattle.best_first.specs.ListsAfterSet.{AfterStore, hit, miss, after}
use Rattle.best_first.proofs.Base.{Base, due-lawful, taken_in, mark-taken}
use Rattle.best_first.proofs.Paced.{Measure, Frugal, frugal}

-- n for a closed cell, 0 for an open one
abbrev spent_by : ℕ → ℕ → ℕ
spent_by zero n = 0
spent_by (suc c) n = n

spent_open : (c n : ℕ) → c ≡ 0 → spent_by c n ≡ 0
spent_open c n e = rw e

spent_closed : (c n : ℕ) → 0 < c → spent_by c n ≡ n
spent_closed zero n h = absurd (omega arith)
spent_closed (suc c) n h = refl

spent_le : (c n : ℕ) → spent_by c n ≤ n
spent_le zero n = zero-le
spent_le (suc c) n = omega arith

-- how many moves the closed cells have
spend : Graph → List ℕ → ℕ
spend G closed = sum_below G.size (λ u. spent_by (get_or closed u 0) (length (G.moves u)))

-- a cell is closed: its moves are due
spend-more : {G : Graph} {closed ages : List ℕ} {w : ℕ} {s : State} {t : Taken} → Base G closed ages w [] s → Taking s.waiting t → get_or closed t.next.cell 0 ≡ 0
    → spend G closed + length (G.moves t.next.cell) ≤ spend G (set closed t.next.cell 1)
unfolding spend
spend-more {G} {closed} {ages} {w} {s} {t} B k o =
    sum_more G.size t.next.cell (length (G.moves t.next.cell)) _ _ (taken_in B k) (λ x _. at x (mark-taken B k x) (at-single _ _ x))
  where
    at : (x : ℕ) → AfterStore closed t.next.cell 1 x → Single t.next.cell (length (G.moves t.next.cell)) x
        → spent_by (get_or closed x 0) (length (G.moves x)) + single t.next.cell (length (G.moves t.next.cell)) x
        ≤ spent_by (get_or (set closed t.next.cell 1) x 0) (length (G.moves x))
    at x (hit e q) i = omega (
      arith,
      spent_open (get_or closed x 0) (length (G.moves x)) (ap (λ (n : ℕ). get_or closed n 0) e ∙ o),
      spent_closed (get_or (set closed t.next.cell 1) x 0) (length (G.moves x)) (omega arith),
      single-most t.next.cell (length (G.moves t.next.cell)) x,
      ap (λ (n : ℕ). length (G.moves n)) e,
    )
    at x (miss n q) (there e i) = absurd (n (sym e))
    at x (miss n q) (elsewhere d i) = rw (q, i) (omega arith)

-- an open cell is marked open: nothing changes
spend-same : (G : Graph) (closed : List ℕ) (w : ℕ) → w < length closed → get_or closed w 0 ≡ 0 → spend G closed ≤ spend G (set closed w 0)
unfolding spend
spend-same G closed w h o = sum_le G.size _ _ (λ x _. at x (after closed w 0 x h))
  where
    at : (x : ℕ) → AfterStore closed w 0 x → spent_by (get_or closed x 0) (length (G.moves x)) ≤ spent_by (get_or (set closed w 0) x 0) (length (G.moves x))
    at x (hit e q) = rw (spent_open (get_or closed x 0) (length (G.moves x)) (ap (λ (n : ℕ). get_or closed n 0) e ∙ o)) zero-le
    at x (miss n q) = rw q (omega arith)

module _ {G : Graph} {degree dearest : ℕ} (S : Sound G degree dearest) where
  -- the goal's moves are never tried
  spend-few : (closed : List ℕ) → get_or closed G.goal 0 ≡ 0 → spend G closed + degree ≤ G.size * degree
  unfolding spend
  spend-few closed o = omega (arith, sum_more G.size G.goal degree _ (λ x. degree) S.goal_in (λ x _. at x (at-single _ _ x)), sum_same G.size degree)
    where
      at : (x : ℕ) → Single G.goal degree x → spent_by (get_or closed x 0) (length (G.moves x)) + single G.goal degree x ≤ degree
      at x (there e q) = omega (arith, spent_open (get_or closed x 0) (length (G.moves x)) (ap (λ (n : ℕ). get_or closed n 0) (sym e) ∙ o))
      at x (elsewhere d q) = omega (arith, spent_le (get_or closed x 0) (length (G.moves x)), S.few x)

  spending : Measure G
  spending = record {
    Held = λ closed due top pushed s. length pushed + length due ≤ spend G closed;
    begins = zero-le;
    later = λ next left l h. h;
    opens = λ B k o h. omega (arith, spend-more B k o);
    skips = λ h. omega arith;
    adds = λ {closed} {ages} {pushed} {u} {d} {top} {m} {ms} {s} M h now o gain.
        omega (arith, spend-same G closed m.to (omega (arith, M.base.closed-long, S.inside u m (due-lawful M))) o);
  }

  pub all-frugal : Consistent G → (limit : ℕ) → Frugal G (G.size * degree - degree) (best_first G limit)
  unfolding spending
  all-frugal K = frugal S K spending (G.size * degree - degree) (λ closed due top pushed s o h. omega (arith, spend-few closed o))
