-- Ways through a graph, said apart from the search: these and the search are the two texts that the third demand compares.
use Rattle.std.specs.Prelude.{◌≡◌, List, [], ◌∷◌, ℕ, ◌+◌, ◌≤◌, ◌<◌, length}
use Rattle.basics.specs.Lists.{In}
use Rattle.best_first.specs.Search.{Graph, Move}

-- one of the moves out of u enters v and costs c
unfoldable pub GraphStep : Graph → ℕ → ℕ → ℕ → Type 0
GraphStep G u v c = (m : Move) × In m (G.moves u) × (m.to ≡ v) × (m.cost ≡ c)

-- the cells after u lead from u to t, and their steps add up to d
abbrev pub Way : Graph → ℕ → List ℕ → ℕ → ℕ → Type 0
Way G u [] t d = (u ≡ t) × (d ≡ 0)
Way G u (v ∷ l) t d = (c : ℕ) × (r : ℕ) × GraphStep G u v c × Way G v l t r × (d ≡ c + r)

abbrev pub NoWay : Graph → Type 0
NoWay G = (l : List ℕ) (d : ℕ) → Way G G.start l G.goal d → ⊥

-- at any costs: both ends are cells, each move stays among the cells, no cell has more than `degree` moves, and none costs more than `dearest`
pub record Sound (G : Graph) (degree dearest : ℕ) : Type 0 where
  pub some : 0 < degree
  pub start_in : G.start < G.size
  pub goal_in : G.goal < G.size
  pub few : (u : ℕ) → length (G.moves u) ≤ degree
  pub inside : (u : ℕ) (m : Move) → In m (G.moves u) → m.to < G.size
  pub dear : (u : ℕ) (m : Move) → In m (G.moves u) → m.cost ≤ dearest

-- no move lowers the estimate by more than its cost, and at the goal nothing is left
pub record Consistent (G : Graph) : Type 0 where
  pub goal_zero : G.estimate G.goal ≡ 0
  pub falls : (u : ℕ) (m : Move) → In m (G.moves u) → G.estimate u ≤ m.cost + G.estimate m.to
