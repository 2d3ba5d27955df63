-- What the contracts of the sweeps over a room cite.
use Rattle.std.specs.Prelude.{◌≡◌, Bool, true, false, List, ℕ, suc, ◌≤◌, ◌<◌, length, get_or, set, Some}
use Rattle.basics.specs.Lists.{In}
use Rattle.room.specs.declared.Move.{Move}
use Rattle.room.specs.Room.{Good, volume, neighbour}
use Rattle.room.specs.Units.{dearest, GoodConfig}
use Rattle.best_first.specs.Search
use Rattle.best_first.specs.Search.{Graph}
use Rattle.best_first.proofs.Equations.{Gain}
use Rattle.best_first.proofs.Base.{Loose}
use Rattle.sweeps.specs.Sweeps.{ReachedCount, Grounded, AtRest, Progress, NoHigher, TriedFrom}
use Rattle.room_search.specs.Routing.{places_in, total, price_of, graph_of}
use Rattle.plain.specs.declared.Errand.{Errand}
use Rattle.plain.specs.Answers.{unused_queue}

-- the room's graph by its class bytes
abbrev pub errand_graph : Errand → List ℕ → Graph
errand_graph E classes = graph_of E.room E.config (λ v. get_or classes v 0) E.start E.goal (places_in unused_queue)

-- v is lowered to c by way of u, or is no dearer already
pub data Lowered (u v c : ℕ) (known previous : List ℕ) (r : Bool) (known' previous' : List ℕ) : Type 0 where
  no_dearer : r ≡ false → 0 < get_or known v 0 → get_or known v 0 ≤ suc c → known' ≡ known → previous' ≡ previous → Lowered u v c known previous r known' previous'
  lowers : r ≡ true → Gain (suc c) (get_or known v 0) → known' ≡ set known v (suc c) → previous' ≡ set previous v (suc u) → Lowered u v c known previous r known' previous'

-- a room that is fit, its class bytes, and both ends in it
pub record ErrandFit (E : Errand) (classes : List ℕ) : Type 0 where
  pub good : Good E.room
  pub config-good : GoodConfig E.room E.config
  pub classes-long : length classes ≡ volume E.room
  pub start_in : E.start < volume E.room
  pub goal_in : E.goal < volume E.room

-- costs that are being lowered
pub record Sweeping (E : Errand) (classes known previous : List ℕ) : Type 0 where
  pub fit : ErrandFit E classes
  pub kept : Grounded (errand_graph E classes) (dearest E.config) known previous

-- where the move m leads from u to a cell that can be entered, it offers that no lower cost
abbrev pub LooseMove : Errand → List ℕ → List ℕ → ℕ → Move → Type 0
LooseMove E classes known u m =
    (v : ℕ) → neighbour E.room u m ≡ Some v → (get_or classes v 0 ≡ 0 → ⊥)
    → Loose known u (record { to = v; cost = total (price_of E.config m (get_or classes v 0)) })

-- one move of u
pub record MoveSwept (E : Errand) (classes : List ℕ) (u : ℕ) (m : Move) (known : List ℕ) (r : Bool) (known' previous' : List ℕ) : Type 0 where
  pub kept : Grounded (errand_graph E classes) (dearest E.config) known' previous'
  pub progress : Progress (errand_graph E classes) (dearest E.config) r known known'
  pub lower : NoHigher known known'
  pub stays : get_or known' u 0 ≡ get_or known u 0
  pub loose : LooseMove E classes known' u m

-- all moves of u, if it is known
pub record MovesSwept (E : Errand) (classes : List ℕ) (u : ℕ) (known : List ℕ) (r : Bool) (known' previous' : List ℕ) : Type 0 where
  pub kept : Grounded (errand_graph E classes) (dearest E.config) known' previous'
  pub progress : Progress (errand_graph E classes) (dearest E.config) r known known'
  pub lower : NoHigher known known'
  pub tried : 0 < get_or known u 0 → (g : Search.Move) → In g ((errand_graph E classes).moves u) → TriedFrom known known' u g

-- one sweep
pub record Swept (E : Errand) (classes known : List ℕ) (r : Bool) (known' previous' : List ℕ) : Type 0 where
  pub kept : Grounded (errand_graph E classes) (dearest E.config) known' previous'
  pub progress : Progress (errand_graph E classes) (dearest E.config) r known known'
  pub lower : NoHigher known known'
  pub tried : (u : ℕ) (g : Search.Move) → 0 < get_or known u 0 → In g ((errand_graph E classes).moves u) → TriedFrom known known' u g

-- memory of exactly V cells, whatever it holds
pub record Ready (E : Errand) (classes known previous : List ℕ) : Type 0 where
  pub fit : ErrandFit E classes
  pub known-long : length known ≡ volume E.room
  pub previous-long : length previous ≡ volume E.room

-- nothing gets cheaper any more, after so many sweeps: at most as many as cells are reached, the last of them changing nothing
pub record Settled (E : Errand) (classes known previous : List ℕ) (sweeps : ℕ) : Type 0 where
  pub kept : Grounded (errand_graph E classes) (dearest E.config) known previous
  pub rest : AtRest (errand_graph E classes) known
  pub few : (k : ℕ) → ReachedCount (errand_graph E classes) k → sweeps ≤ k
