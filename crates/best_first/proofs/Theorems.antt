-- THE THEOREMS about the search. Search and Ways say what is searched and what a way is; Statements says what is claimed.
-- One more stands where it is used: where nothing waits any more, no move leaves the known cells (`empty-shut`, NoRoute).
use Rattle.std.specs.Prelude.{◌≡◌, refl, ◌≢◌, ◌↔◌, Bool, List, ℕ, suc, ◌+◌, ◌-◌, ◌*◌, ◌≤◌, get_or, eqb}
use Rattle.std.proofs.Common.{inl, inr, arith, eq-zero-or-pos}
use Rattle.basics.specs.Counts.{times}
use Rattle.best_first.specs.Search.{Graph, State, Taken, on, one_more_expanded, Answer, route, no_route, limit-passed, queue-full, best_first}
use Rattle.best_first.specs.Ways.{NoWay, Sound, Consistent}
use Rattle.best_first.specs.Statements.{known_at, Taking, outcome, Reached, Honest, Right, Decided, by-route, by_no_route, expanded_of, Bounded, pushes, Slacks, count_below, OnlyInto}
use Rattle.best_first.proofs.Reached.{ending}
use Rattle.best_first.proofs.Bounds.{bounded, sane}
use Rattle.best_first.proofs.Base.{taken-fresh, again-outcome}
use Rattle.best_first.proofs.Induction.{invariant_holds, bare}
use Rattle.best_first.proofs.Demand.{honest-by, right_by}
use Rattle.best_first.proofs.Pushes.{all-frugal}
use Rattle.best_first.proofs.Slacks.{slot-cell, slots_hold, slot-frugal, entered-frugal}

-- ---- at any costs and any estimate

module _ {G : Graph} {degree dearest : ℕ} (S : Sound G degree dearest) where
  -- a route answered is lawful and its steps add up to its cost; "no route" is true; the count that passes the node limit is one above it
  pub honest : (limit : ℕ) → Honest G limit (best_first G limit)
  honest limit = honest-by S (ending G limit)

  -- every number of every state is in range, and no known cost is above the cells less one times the dearest move
  pub in_range : {pushed : List ℕ} {s : State} → Reached G pushed s → Bounded G degree dearest s
  in_range R = bounded S (sane S R)

  -- an old entry, one of another cost than its cell has now, pushes nothing when it is taken
  pub old-entry : {pushed : List ℕ} {s : State} {t : Taken} → Reached G pushed s → Taking s.waiting t
      → suc t.next.key ≢ known_at s t.next.cell + G.estimate t.next.cell → outcome G s t.next t.left ≡ on (one_more_expanded s t.left)
  old-entry {t = t} R k old =
      let H = invariant_holds S (bare G) R in
      elim (eq-zero-or-pos (get_or H.closed t.next.cell 0)) [ inl o ↦ absurd (old (taken-fresh H.base k o)) | inr c ↦ again-outcome H.base k c ]

  -- ---- with a consistent estimate

  module _ (K : Consistent G) where
    -- THE THIRD DEMAND: a route answered is lawful, its steps add up to its cost, and no way is cheaper; "no route" is true; and at most `degree` cells
    -- are expanded for each cell
    pub demand : (limit : ℕ) → Right G degree limit (best_first G limit)
    demand limit = right_by S K (ending G limit) (honest limit) (all-frugal S K limit)

    -- with a node limit and a queue of that size a route or "no route" is answered, and "no route" exactly where there is none
    module _ (limit : ℕ) (far : degree * G.size ≤ limit) (wide : degree * G.size ≤ G.places) where
      pub decided : Decided (best_first G limit)
      decided = go (best_first G limit) (demand limit)
        where
          go : (a : Answer) → Right G degree limit a → Decided a
          go (route path cost x) r = by-route path cost x
          go (no_route x) r = by_no_route x
          go (limit-passed x) r = absurd (omega arith)
          go (queue-full x) r = absurd (omega arith)

      pub no_route_exactly : ((x : ℕ) × (best_first G limit ≡ no_route x)) ↔ NoWay G
      no_route_exactly = (λ p. rw p.1 at (honest limit), λ w. go w (honest limit) decided)
        where
          go : {a : Answer} → NoWay G → Honest G limit a → Decided a → (x : ℕ) × (a ≡ no_route x)
          go w h (by-route path cost x) = absurd (w h.rest cost h.way)
          go w h (by_no_route x) = (x, refl)

    -- where the slacks of the moves into any one cell are among k values, a cell is pushed at most k times: this bounds the expanded cells and the
    -- places of the queue
    module _ {k : ℕ} (Z : Slacks G k) (limit : ℕ) where
      pub slacks-cell : (v : ℕ) → times (eqb v) (pushes G limit) ≤ k
      unfolding times
      slacks-cell v = slots_hold Z S K (λ l. times (eqb v) l ≤ k) (λ x l h. omega arith) (λ top pushed s A. slot-cell A v) limit

      pub slacks-expanded : expanded_of (best_first G limit) ≤ k * (G.size - 1) + 1
      slacks-expanded = (slot-frugal Z S K limit).expanded

      pub slacks-places : k * (G.size - 1) ≤ G.places → (x : ℕ) → best_first G limit ≢ queue-full x
      slacks-places h x e = omega (arith, (slot-frugal Z S K limit).spare x e)

      -- a cell that no move leads into is not pushed at all
      module _ {test : ℕ → Bool} (O : OnlyInto G test) where
        pub entered-expanded : expanded_of (best_first G limit) ≤ k * count_below G.size test + 1
        entered-expanded = (entered-frugal Z S K O limit).expanded

        pub entered-places : k * count_below G.size test ≤ G.places → (x : ℕ) → best_first G limit ≢ queue-full x
        entered-places h x e = omega (arith, (entered-frugal Z S K O limit).spare x e)
