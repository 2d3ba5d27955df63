-- Laws of the loops over the sinks, and of the whole.
use Rattle.std.specs.Prelude.{◌≡◌, refl, length, get_or, take}
use Rattle.std.proofs.Common.{sym, ◌∙◌, arith}
use Rattle.std.proofs.Math.Path.{ap}
use mathlib.Core.List.{List}
use Prim.Native.Nat.{ℕ, ◌+◌, ◌≤◌, ◌<◌}
use Rattle.room.specs.declared.Room.{Room}
use Rattle.room.specs.Room.{volume, max_volume}
use Rattle.routing_resources.specs.Marks.{no_marks}
use Rattle.trace.specs.Traces.{PreviousInside}
use Rattle.ends.specs.declared.Tap.{Tap}
use Rattle.ends.specs.declared.Taps.{Taps}
use Rattle.ends.specs.Ends.{no_tap, taps_in, TapsInside}
use Rattle.branches.specs.declared.BranchLengths.{BranchLengths}
use Rattle.walk.specs.Walks.{parents_from}
use Rattle.repeaters.specs.Repeaters.{tree_neighbours, run_of, tail_of, planned, repeater_marks}
use Rattle.repeaters.specs.Links.{linked_cells, PathReady}
use Rattle.repeaters.specs.Roots.{Rooted, Traced}
use Rattle.repeaters.specs.RootLaws.{path-cells}
use Rattle.repeaters.specs.Sinks.{TreeReady, Plannable}
use Rattle.basics.specs.Folds.{along, Folding, fold_first, fold_next, fold_last}
use Rattle.ends.specs.EndLaws.{taps-long, tap-is}

-- what tracing the path to a cell asks
pub path_traceable : {R : Room} {links parents forbidden : List ℕ} → TreeReady R links parents forbidden → {cell : ℕ} → cell < volume R → (line : List ℕ) → length line ≡ volume R
    → (cell < length parents) × (PreviousInside parents × ((length parents ≤ max_volume) × (length line ≡ length parents)))
path_traceable G h line l = (rw G.parents-long h, (G.parents-inside, (omega (arith, G.parents-long, G.good.few), l ∙ sym G.parents-long)))

-- a path of a grown tree is ready for the tests of its places
pub path-ready : {R : Room} {links parents forbidden : List ℕ} → TreeReady R links parents forbidden → {cell : ℕ} {line : List ℕ} {count : ℕ} → cell < volume R
    → Traced parents cell line count → PathReady R links forbidden (take count line)
path-ready {R} {links} {parents} G {cell} h T = record {
  good = G.good;
  links-long = G.links-long;
  forbidden-long = G.forbidden-long;
  cells = rw T.is (path-cells R parents G.parents-long G.parents-inside cell h);
}

-- once the parents are known, the tree is ready for its sinks
pub tree-ready : {R : Room} {source : ℕ} {T : Taps} {L : BranchLengths} {cells forbidden repeaters links parents line : List ℕ} → Plannable R source T L cells forbidden repeaters links parents line
    → {links' parents' : List ℕ} → length links' ≡ length links → Rooted R source links' parents' → TreeReady R links' parents' forbidden
tree-ready P e r = record { good = P.good; links-long = e ∙ P.links-long; parents-long = r.long; parents-inside = r.parents-inside; forbidden-long = P.forbidden-long }

-- each sink in use has its terminal in the room
pub terminal-inside : {R : Room} {T : Taps} → TapsInside R T → (i : ℕ) → i < length (taps_in T) → (get_or (taps_in T) i no_tap).terminal < volume R
terminal-inside {T = T} f i h =
    let k : i < T.count = rw (taps-long f) at h in rw (← tap-is T i k) (f.terminal_in_lem i k)

-- the walk over the sinks in use, whose marks keep their length
pub record Sown (put : Tap → List ℕ → List ℕ) (T : Taps) (start marks : List ℕ) (k : ℕ) : Type 0 where
  pub long : length marks ≡ length start
  pub walk : Folding put (taps_in T) start marks k

module _ {put : Tap → List ℕ → List ℕ} {T : Taps} {start : List ℕ} where
  pub sown_none : Sown put T start start 0
  sown_none = record { long = refl; walk = fold_first put (taps_in T) start }

  module _ {marks : List ℕ} {k : ℕ} (I : Sown put T start marks k) where
    pub sown_next : k < length (taps_in T) → (tap : Tap) → tap ≡ get_or (taps_in T) k no_tap → {marks' : List ℕ} → length marks' ≡ length marks
        → marks' ≡ put tap marks → Sown put T start marks' (k + 1)
    sown_next h tap t e g = record {
      long = e ∙ I.long;
      walk = fold_next put (taps_in T) I.walk no_tap h _ (g ∙ ap (λ (x : Tap). put x marks) t);
    }

    pub sown_all : length (taps_in T) ≤ k → marks ≡ along put (taps_in T) start
    sown_all h = fold_last put (taps_in T) I.walk h

module _ (R : Room) (limit source : ℕ) (taps : List Tap) (branches : List (List ℕ)) (forbidden links parents : List ℕ) where
  pub placed : linked_cells R links ≡ tree_neighbours branches (volume R) → parents ≡ parents_from (linked_cells R links) (volume R) source
      → (none runs tails : List ℕ) → none ≡ no_marks (volume R) → runs ≡ along (run_of R (linked_cells R links) parents forbidden limit) taps none
      → tails ≡ along (tail_of R (linked_cells R links) parents forbidden) taps runs → tails ≡ repeater_marks R limit source taps branches forbidden
  unfolding repeater_marks planned
  placed near rooted none runs tails e f g =
      g
      ∙ ap (along (tail_of R (linked_cells R links) parents forbidden) taps) (f ∙ ap (along (run_of R (linked_cells R links) parents forbidden limit) taps) e)
      ∙ ap (λ (ps : List ℕ). planned R (linked_cells R links) ps forbidden limit taps (no_marks (volume R))) rooted
      ∙ ap (λ (next : ℕ → List ℕ). planned R next (parents_from next (volume R) source) forbidden limit taps (no_marks (volume R))) near
