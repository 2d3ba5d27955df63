-- A QUEUE OF 5 PLACES FOR EACH CELL BUT THE START IS NEVER FULL IN A TREE, where a flat step costs at least 10 and a stair at least 20: number 13 does
-- not come of it.
use Rattle.std.specs.Prelude.{◌≡◌, ◌≢◌, true, List}
use Rattle.std.proofs.Math.Path.{refl}
use Prim.Native.Nat.{ℕ, zero, suc, ◌+◌, ◌-◌, ◌*◌, ◌≤◌, ◌<◌}
use Rattle.std.proofs.Common.{arith}
use Rattle.numbers.specs.Refusals.{queue_full_number}
use Rattle.basics.specs.Tests.{ask, never}
use Rattle.room.specs.declared.RouterConfig.{RouterConfig}
use Rattle.room.specs.Room.{Good, volume}
use Rattle.room_search.specs.Routing.{Task, routeable}
use Rattle.ends.specs.Ends.{NetInside}
use Rattle.goals.specs.Goals.{Trial, found, failed, full, route_to_tree}
use Rattle.goals.specs.NeverFull.{FivePlaces}
use Rattle.goals.proofs.FullLaws.{cells-never, route_not_full}
use Rattle.branches.specs.Branches.{branch_of}
use Rattle.multinet.specs.Tree.{Plot, Tree, Growth, grown, stopped, tap_at, site_at, sink_now, fits_in, after_sink, grow_sink, grow_on, grow_from, growth_of}
use Rattle.multinet.proofs.GrowingLaws.{sink-now}
use Rattle.demands.specs.Statements.{Posed, Priced}

-- ---- one search

-- a search between two cells of the room that may be entered
pub posed : (T : Task) → Good T.room → T.start < volume T.room → T.goal < volume T.room
    → routeable T T.start ≡ true → routeable T T.goal ≡ true → Posed T
posed T G start_in goal_in s g = record { good = G; start_in = start_in; goal_in = goal_in; start-free = s; goal-free = g }

-- at such costs, 5 places for each of so many cells
pub wide_enough : {C : RouterConfig} {cells places : ℕ} → Priced C → 5 * cells ≤ places → FivePlaces C cells places
wide_enough D wide = record { flat-least = D.flat-least; stair_least = D.stair_least; wide = wide }

-- ---- the tree

module _ (P : Plot) (G : Good P.room) (N : NetInside P.room P.source P.taps) (D : Priced P.config) (wide : 5 * (volume P.room - 1) ≤ P.places) where
  sink_not_full : (k : ℕ) → k < P.taps.count → (T : Tree) (x : ℕ) → grow_sink P k T ≢ stopped queue_full_number x
  unfolding grow_sink after_sink
  sink_not_full k h T x e = go _ refl e
    where
      go : (trial : Trial) → route_to_tree (site_at P T.joinable) (tap_at P k).approach T.blocked ≡ trial → after_sink P k T trial ≡ stopped queue_full_number x → ⊥
      go (found path cost) w q = ask (fits_in P T (branch_of (tap_at P k) path)) (λ t. never (cc (rw t at q))) (λ f. never (cc (rw f at q)))
      go failed w q = never (cc)
      go (full y) w q =
          let S = site_at P T.joinable in
          let start = (tap_at P k).approach in
          route_not_full S start T.blocked (cells-never S start T.blocked (N.taps_in_lem.approach_in k h) (wide_enough D wide)) y w

  turns_not_full : (n turn : ℕ) → turn + n ≤ P.taps.count → (T : Tree) (x : ℕ) → grow_from n P turn T ≢ stopped queue_full_number x
  unfolding grow_from
  turns_not_full zero turn h T x e = never (cc)
  turns_not_full (suc n) turn h T x e = go (grow_sink P (sink_now P turn) T) refl e (turns_not_full n (turn + 1) (omega arith))
    where
      go : (g : Growth) → grow_sink P (sink_now P turn) T ≡ g → grow_on (grow_from n P (turn + 1)) g ≡ stopped queue_full_number x
          → ((T' : Tree) (y : ℕ) → grow_from n P (turn + 1) T' ≢ stopped queue_full_number y) → ⊥
      go (grown T') w q later = later T' x q
      go (stopped number detail) w q later = sink_not_full (sink_now P turn) (sink-now P turn _ refl (omega arith)).0 T x (rw w q)

  -- number 13 never comes of such a tree
  pub tree_not_full : (blocked : List ℕ) (x : ℕ) → growth_of P blocked ≢ stopped queue_full_number x
  unfolding growth_of
  tree_not_full blocked x e = turns_not_full P.taps.count 0 (omega arith) _ x e
