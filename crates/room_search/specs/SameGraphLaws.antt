-- Class bytes that say what it takes to enter each cell make the task's own graph.
use Rattle.std.proofs.Math.Path.{◌≡◌, refl, fun_ext}
use Rattle.std.proofs.Common.{◌∙◌, arith, length-set, get_or-set_same, get_or-set_other, ne_eqb}
use Rattle.std.specs.Prelude.{true, length, get_or, Option, Some, None}
use mathlib.Core.List.{List, [], ◌∷◌, ◌++◌}
use Prim.Native.Nat.{ℕ, ◌<◌}
use Rattle.basics.specs.Tests.{ask_same}
use Rattle.room.specs.declared.Room.{Room}
use Rattle.room.specs.declared.Move.{Move}
use Rattle.room.specs.declared.RouterConfig.{RouterConfig}
use Rattle.room.specs.Room.{volume, moves, neighbour, distance}
use Rattle.room.specs.MoveLaws.{leads}
use Rattle.best_first.specs.Search
use Rattle.room_search.specs.Routing.{Task, entering, move_into, moves_by, estimate_of, graph_of, graph, class_at}
use Rattle.room_search.specs.SearchEndLaws.{start-is-end, goal-is-end}
use Rattle.room_search.specs.Classes.{Plain, with_end}

module _ (R : Room) (C : RouterConfig) (f g : ℕ → ℕ) (same : (v : ℕ) → v < volume R → f v ≡ g v) where
  same-moves : (u : ℕ) (ms : List Move) → moves_by R C f u ms ≡ moves_by R C g u ms
  unfolding moves_by
  same-moves u [] = refl
  same-moves u (m ∷ ms) = rw (same-moves u ms) (go (neighbour R u m) refl)
    where
      go : (w : Option ℕ) → neighbour R u m ≡ w → move_into C f m w ++ moves_by R C g u ms ≡ move_into C g m w ++ moves_by R C g u ms
      go None e = refl
      go (Some v) e = rw (same v (leads R u m v e).inside)

  pub same_graph : (start goal places : ℕ) → graph_of R C f start goal places ≡ graph_of R C g start goal places
  unfolding graph_of
  same_graph start goal places =
      let e : ◌≡◌ {A = ℕ → List Search.Move} (λ u. moves_by R C f u moves) (λ u. moves_by R C g u moves) = fun_ext (λ u. same-moves u moves) in
      λ i. record { moves = e i; estimate = λ u. estimate_of (distance R u goal); size = volume R; start = start; goal = goal; places = places }

-- the classes with both ends made are what it takes to enter each cell
module _ (T : Task) (classes : List ℕ) (P : Plain T.room T.kinds classes) (s : T.start < volume T.room) (g : T.goal < volume T.room) where
  abbrev with_ends : List ℕ
  with_ends = with_end T.room T.kinds T.goal (with_end T.room T.kinds T.start classes)

  pub ends_length : length with_ends ≡ volume T.room
  ends_length = simp length-set P.long

  ends-entering : (v : ℕ) → v < volume T.room → get_or with_ends v 0 ≡ entering T v
  ends-entering v h =
      ask_same v T.goal
      (λ e. rw e (get_or-set_same (with_end T.room T.kinds T.start classes) T.goal (class_at true T.room T.kinds T.goal) 0 (rw length-set (omega (arith, P.long)))
      ∙ rw (goal-is-end T.start T.goal)))
      (λ n. get_or-set_other (with_end T.room T.kinds T.start classes) T.goal v _ 0 n
      ∙ ask_same v T.start
      (λ e. rw e (get_or-set_same classes T.start (class_at true T.room T.kinds T.start) 0 (omega (arith, P.long)) ∙ rw (start-is-end T.start T.goal)))
      (λ k. get_or-set_other classes T.start v _ 0 k ∙ P.each v h ∙ rw (ne_eqb v T.start k, ne_eqb v T.goal n)))

  pub ends-graph : graph_of T.room T.config (λ v. get_or with_ends v 0) T.start T.goal T.places ≡ graph T
  ends-graph = same_graph T.room T.config (λ v. get_or with_ends v 0) (entering T) ends-entering T.start T.goal T.places
