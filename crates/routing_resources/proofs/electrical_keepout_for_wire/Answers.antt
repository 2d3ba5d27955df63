-- `electrical_keepout_for_wire` meets its contract: the four neighbours on each of three levels.
use mathlib.Core.List.{List}
use mathlib.Core.Path.{◌≡◌, ap, ◌∙◌}
use Prim.Native.Nat.{ℕ}
use Rattle.room.specs.declared.Room.{Room}
use Rattle.routing_resources.specs.Marks.{marked_by}
use Rattle.routing_resources.specs.MarkLaws.{with_or}
use Rattle.routing_resources.specs.Resources.{is_neighbour, in_keepout}
use Rattle.routing_resources.proofs.electrical_keepout_for_wire.Goals as goal

three_levels : (R : Room) (cell : ℕ) (ms : List ℕ)
    → marked_by (is_neighbour R cell 0) (marked_by (is_neighbour R cell 2) (marked_by (is_neighbour R cell 1) ms)) ≡ marked_by (in_keepout R cell) ms
unfolding in_keepout
three_levels R cell ms = ap (marked_by (is_neighbour R cell 0)) (with_or 1 _ _ ms) ∙ with_or 1 _ _ ms

pub returns : goal.returns
returns c = c.horizontal_neighbors-3.ensures ∙ ap (marked_by (is_neighbour _ _ 0)) (c.horizontal_neighbors-2.ensures ∙ ap (marked_by (is_neighbour _ _ 2)) c.horizontal_neighbors.ensures) ∙ three_levels _ _ _
