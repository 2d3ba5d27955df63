-- Laws of the breadth-first search in a line, and of the path by parents.
use Rattle.std.specs.Prelude.{◌≡◌, ◌≢◌, ℕ, zero, suc, ◌+◌, ◌-◌, ◌/◌, ◌≤◌, ◌<◌, ltb, get_or, take, drop, replicate, Option, Some, None}
use Rattle.std.proofs.Math.Path.{refl, sym, ap}
use Rattle.std.proofs.Common.{◌∙◌, not-suc-le-zero, add-one, arith, take-suc-set, get_or-set_same, get_or-set_other, length-take-le, take_at}
use mathlib.Core.List.{List, [], ◌∷◌, ◌++◌}
use Rattle.std.proofs.Math.Nat.{sub-zero}
use Rattle.std.proofs.Math.ListN.{length, set, length-set}
use Rattle.std.proofs.lemmas.List.{length-replicate, get_or-replicate, drop-append-le}
use Rattle.std.proofs.Math.Seq.{slice, slice-cons, slice_empty}
use Rattle.basics.specs.Tests.{ask_same}
use Rattle.basics.specs.Counts.{times-most}
use Rattle.basics.specs.Folds.{along}
use Rattle.basics.specs.Zeros.{zeros}
use Rattle.room.specs.declared.Room.{Room}
use Rattle.room.specs.declared.Pos.{Pos}
use Rattle.room.specs.Room.{volume}
use Rattle.best_first.specs.ListsAfterSet.{nonzeros, nonzeros-none, nonzeros-new}
use Rattle.trace.specs.Traces.{PreviousInside}
use Rattle.trace.specs.TraceLaws.{trace-cells}
use Rattle.walk.specs.Walks.{Wave, wave, meet_all, spread, first_parents, parents_from, root_path}
use Rattle.walk.proofs.WalkLaws.{meet-new, meet-old, spread_visit, spread-done}
use Rattle.repeaters.specs.Links.{ordered_moves, ordered_move, linked_place, cons_place, cells_by, linked_cells}
use Rattle.repeaters.specs.LinkLaws.{cells_left, cells-more, cells-none}
use Rattle.repeaters.specs.Roots.{LineHeld, Met, Rooted, Traced}
use Rattle.routing_resources.specs.Marks.{AllCells}

-- ---- counting the cells reached

-- a cell that is not reached is one more to come
nonzeros-less : (ps : List ℕ) (v : ℕ) → v < length ps → get_or ps v 0 ≡ 0 → nonzeros ps < length ps
nonzeros-less ps v h e = omega (arith, nonzeros-new ps v 0 h e, times-most (ltb 0) (set ps v 1), length-set ps v 1)

-- before any cell is reached, the line holds none
pub held-none : (n : ℕ) (line : List ℕ) → length line ≡ n → LineHeld (replicate n 0) line 0
held-none n line e = record {
  line-long = e ∙ sym (length-replicate {A = ℕ} n 0);
  counted = nonzeros-none n;
  cells = λ i h. absurd (omega (arith, h));
  parents-inside = λ v. rw (zeros n v) (omega arith);
}

-- ---- one cell is met

module _ (u v : ℕ) (parents waiting : List ℕ) where
  meet-before : get_or parents v 0 ≢ 0 → wave parents waiting ≡ meet_all u (v ∷ []) (wave parents waiting)
  unfolding along
  meet-before n = sym (meet-old u v parents waiting n)

  meet-now : get_or parents v 0 ≡ 0 → wave (set parents v (u + 1)) (waiting ++ (v ∷ [])) ≡ meet_all u (v ∷ []) (wave parents waiting)
  unfolding along
  meet-now e = sym (meet-new u v parents waiting e)

waiting-more : (line : List ℕ) (head reached v : ℕ) → reached < length line → head ≤ reached → slice head (reached + 1) (set line reached v) ≡ slice head reached line ++ (v ∷ [])
waiting-more line head reached v h k =
    rw (add-one, take-suc-set line reached v h) (drop-append-le head (take reached line) (v ∷ []) (rw (length-take-le reached line (omega arith)) k))

module _ {parents line : List ℕ} {reached : ℕ} (H : LineHeld parents line reached) where
  pub held-most : reached ≤ length parents
  held-most = omega (arith, H.counted, times-most (ltb 0) parents)

  -- what is written at the line's end is no part of it yet
  pub line-put : (v : ℕ) → LineHeld parents (set line reached v) reached
  line-put v = record {
    line-long = length-set line reached v ∙ H.line-long;
    counted = H.counted;
    cells = λ i h. rw (get_or-set_other line reached i v 0 (λ e. absurd (omega (arith, h, e)))) (H.cells i h);
    parents-inside = H.parents-inside;
  }

  pub met-before : (from v : ℕ) → get_or parents v 0 ≢ 0 → Met from (v ∷ []) parents line reached parents line reached
  met-before from v n = record { held = H; long = refl; on = omega arith; goes = λ head h. meet-before from v parents (slice head reached line) n }

  module _ (from v : ℕ) (from_in : from < length parents) (v-in : v < length parents) (new : get_or parents v 0 ≡ 0) where
    pub line-fits : reached < length line
    line-fits = omega (arith, H.counted, H.line-long, nonzeros-less parents v v-in new)

    pub met-now : Met from (v ∷ []) parents line reached (set parents v (from + 1)) (set line reached v) (reached + 1)
    met-now = record {
      held = record {
        line-long = length-set line reached v ∙ H.line-long ∙ sym (length-set parents v (from + 1));
        counted = ap (λ (x : ℕ). nonzeros (set parents v x)) (add-one from) ∙ nonzeros-new parents v from v-in new ∙ ap suc H.counted ∙ sym (add-one reached);
        cells = λ i h. rw length-set (in_line i h);
        parents-inside = λ w. rw length-set (parent w);
      };
      long = length-set parents v (from + 1);
      on = omega arith;
      goes = λ head h. rw (waiting-more line head reached v line-fits h) (meet-now from v parents (slice head reached line) new);
    }
      where
        in_line : (i : ℕ) → i < reached + 1 → get_or (set line reached v) i 0 < length parents
        in_line i h =
            ask_same i reached
            (λ q. rw (q, get_or-set_same line reached v 0 line-fits) v-in)
            (λ d. rw (get_or-set_other line reached i v 0 d) (H.cells i (omega (arith, d))))

        parent : (w : ℕ) → get_or (set parents v (from + 1)) w 0 ≤ length parents
        parent w =
            ask_same w v
            (λ q. rw (q, get_or-set_same parents v (from + 1) 0 v-in) (omega arith))
            (λ d. rw (get_or-set_other parents v w (from + 1) 0 d) (H.parents-inside w))

  pub met-none : (from : ℕ) → Met from [] parents line reached parents line reached
  unfolding along
  met-none from = record { held = H; long = refl; on = omega arith; goes = λ head h. refl }

-- ---- the loop over the bits of a mask

meet-more : (from : ℕ) (place : Option ℕ) (vs : List ℕ) (w : Wave) → meet_all from (cons_place place vs) w ≡ meet_all from vs (meet_all from (cons_place place []) w)
unfolding along
meet-more from (Some v) vs w = refl
meet-more from None vs w = refl

pub record Visiting (R : Room) (p : Pos) (from mask : ℕ) (parents₀ line₀ : List ℕ) (reached₀ : ℕ) (parents line : List ℕ) (reached rest k : ℕ) : Type 0 where
  pub within : k ≤ 12
  pub held : LineHeld parents line reached
  pub long : length parents ≡ length parents₀
  pub on : reached₀ ≤ reached
  pub goes : (head : ℕ) → head ≤ reached₀
      → meet_all from (cells_left R p rest k) (wave parents (slice head reached line))
      ≡ meet_all from (cells_by R p mask ordered_moves) (wave parents₀ (slice head reached₀ line₀))

module _ {R : Room} {p : Pos} {from mask : ℕ} {parents₀ line₀ : List ℕ} {reached₀ : ℕ} where
  pub visiting_none : LineHeld parents₀ line₀ reached₀ → Visiting R p from mask parents₀ line₀ reached₀ parents₀ line₀ reached₀ mask 0
  visiting_none H = record { within = omega arith; held = H; long = refl; on = omega arith; goes = λ head h. refl }

  module _ {parents line : List ℕ} {reached rest k : ℕ} (I : Visiting R p from mask parents₀ line₀ reached₀ parents line reached rest k) where
    pub visiting_next : k < 12 → (place : Option ℕ) → place ≡ linked_place R p rest (ordered_move k) → {parents' line' : List ℕ} {reached' : ℕ}
        → Met from (cons_place place []) parents line reached parents' line' reached'
        → Visiting R p from mask parents₀ line₀ reached₀ parents' line' reached' (rest / 2) (k + 1)
    visiting_next h place e {parents'} {line'} {reached'} M = record {
      within = omega arith;
      held = M.held;
      long = M.long ∙ I.long;
      on = omega (arith, I.on, M.on);
      goes = λ head q.
          ap (meet_all from (cells_left R p (rest / 2) (k + 1))) (M.goes head (omega (arith, I.on)))
          ∙ sym (meet-more from place (cells_left R p (rest / 2) (k + 1)) (wave parents (slice head reached line)))
          ∙ ap (λ (vs : List ℕ). meet_all from vs (wave parents (slice head reached line)))
          (ap (λ (q : Option ℕ). cons_place q (cells_left R p (rest / 2) (k + 1))) e ∙ sym (cells-more R p rest k h))
          ∙ I.goes head q;
    }

    pub visiting_all : 12 ≤ k → Met from (cells_by R p mask ordered_moves) parents₀ line₀ reached₀ parents line reached
    unfolding along
    visiting_all h = record {
      held = I.held;
      long = I.long;
      on = I.on;
      goes = λ head q.
          sym (ap (λ (vs : List ℕ). meet_all from vs (wave parents (slice head reached line))) (cells-none R p rest k I.within h)) ∙ I.goes head q;
    }

-- ---- the loop over the cells that wait

pub record Spreading (R : Room) (source : ℕ) (links parents line : List ℕ) (head reached : ℕ) : Type 0 where
  pub held : LineHeld parents line reached
  pub long : length parents ≡ volume R
  pub within : head ≤ reached
  pub same : spread (volume R - head) (linked_cells R links) (wave parents (slice head reached line))
      ≡ spread (volume R) (linked_cells R links) (wave (first_parents (volume R) source) (source ∷ []))

module _ {R : Room} {source : ℕ} {links : List ℕ} where
  -- the source counts as met from itself, before any other cell
  pub spreading_first : {line parents' line' : List ℕ} {reached' : ℕ} → source < volume R
      → Met source (source ∷ []) (replicate (volume R) 0) line 0 parents' line' reached' → Spreading R source links parents' line' 0 reached'
  spreading_first {line} h M = record {
    held = M.held;
    long = M.long ∙ length-replicate {A = ℕ} (volume R) 0;
    within = omega arith;
    same = rw sub-zero (ap (spread (volume R) (linked_cells R links)) (M.goes 0 (omega arith) ∙ sym first));
  }
    where
      first : wave (first_parents (volume R) source) (source ∷ []) ≡ meet_all source (source ∷ []) (wave (replicate (volume R) 0) (slice 0 0 line))
      first = rw (slice_empty 0 line) (meet-now source source (replicate (volume R) 0) [] (get_or-replicate {A = ℕ} (volume R) source 0 0 h))

  module _ {parents line : List ℕ} {head reached : ℕ} (I : Spreading R source links parents line head reached) where
    pub spreading_most : reached ≤ volume R
    spreading_most = omega (arith, held-most I.held, I.long)

    pub spreading_in : head < reached → (cell : ℕ) → cell ≡ get_or line head 0 → cell < volume R
    spreading_in h cell e = rw (e, ← I.long) (I.held.cells head h)

    pub spreading_next : head < reached → (cell : ℕ) → cell ≡ get_or line head 0 → {parents' line' : List ℕ} {reached' : ℕ}
        → Met cell (linked_cells R links cell) parents line reached parents' line' reached'
        → Spreading R source links parents' line' (head + 1) reached'
    spreading_next h cell e {parents'} {line'} {reached'} M = record {
      held = M.held;
      long = M.long ∙ I.long;
      within = omega (arith, M.on);
      same =
          ap (spread (volume R - (head + 1)) (linked_cells R links)) (M.goes (head + 1) (omega arith))
          ∙ sym (spread_visit (volume R - (head + 1)) (linked_cells R links) parents cell (slice (head + 1) reached line))
          ∙ rw (← left, ← first) I.same;
    }
      where
        left : volume R - head ≡ suc (volume R - (head + 1))
        left = omega (arith, spreading_most)

        in_line : reached ≤ length line
        in_line = omega (arith, held-most I.held, I.held.line-long)

        first : slice head reached line ≡ cell ∷ slice (head + 1) reached line
        first = rw (add-one, e) (slice-cons head reached line 0 h in_line)

    pub spreading_all : reached ≤ head → (parents' : List ℕ) → parents' ≡ set parents source 0 → Rooted R source links parents'
    unfolding parents_from
    spreading_all h parents' e = record {
      is = e ∙ ap (λ (ps : List ℕ). set ps source 0) done;
      parents-inside = λ v. rw (e, length-set parents source 0) (parent v);
      long = ap length e ∙ length-set parents source 0 ∙ I.long;
    }
      where
        none : slice head reached line ≡ []
        none = let e : head ≡ reached = omega (arith, I.within) in rw e (slice_empty reached line)

        done : parents ≡ spread (volume R) (linked_cells R links) (wave (first_parents (volume R) source) (source ∷ []))
        done = sym (spread-done (volume R - head) (linked_cells R links) parents) ∙ rw none at I.same

        parent : (v : ℕ) → get_or (set parents source 0) v 0 ≤ length parents
        parent v =
            ask_same v source
            (λ q. rw q (at_source parents source))
            (λ d. rw (get_or-set_other parents source v 0 0 d) (I.held.parents-inside v))
          where
            at_source : (ps : List ℕ) (s : ℕ) → get_or (set ps s 0) s 0 ≤ length ps
            at_source [] s = omega arith
            at_source (x ∷ xs) zero = omega arith
            at_source (x ∷ xs) (suc s) = omega (arith, at_source xs s)

-- ---- the path by parents

pub traced : (parents line : List ℕ) {line' : List ℕ} (cell : ℕ) {count : ℕ} → count ≡ length (root_path parents cell) → count ≤ length line
    → length line' ≡ length line → line' ≡ root_path parents cell ++ drop count line → Traced parents cell line' count
traced parents line cell {count} e h k f = record {
  is = ap (take count) f ∙ take_at (root_path parents cell) (drop count line) count (sym e);
  fits = omega arith;
}

pub path-cells : (R : Room) (parents : List ℕ) → length parents ≡ volume R → PreviousInside parents → (cell : ℕ) → cell < volume R
    → AllCells R (root_path parents cell)
path-cells R parents e L cell h = record {
  below = λ i k. rw (← e) (trace-cells (length parents) parents L cell [] (rw e h) (λ j q. absurd (not-suc-le-zero q)) i k);
}
