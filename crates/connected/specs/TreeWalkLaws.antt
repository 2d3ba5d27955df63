-- Over the tree neighbours of a tree that grew from its source, the walk reaches the tree and nothing else, and the path by parents leads to each of its cells.
use Rattle.std.specs.Prelude.{◌≡◌, ◌⊎◌, List, ℕ}
use Rattle.std.proofs.Common.{inl, inr}
use Rattle.room.specs.declared.Room.{Room}
use Rattle.room.specs.Room.{Good}
use Rattle.repeaters.specs.Repeaters.{tree_neighbours}
use Rattle.repeaters.specs.Masks.{Steps, AllSteps}
use Rattle.walk.specs.Chains.{Chained}
use Rattle.walk.specs.ChainLaws.{chained-here}
use Rattle.walk.specs.Walks.{parents_from, root_path, PathFrom}
use Rattle.walk.proofs.WalkLaws.{root-path}
use Rattle.repeater_claims.specs.BothWaysLaws.{neighbours-below}
use Rattle.connected.specs.Grafts.{OnSome, TreeFrom}
use Rattle.connected.specs.GraftLaws.{grafts_chained, chain-goes}

-- ---- the walk reaches the tree

module _ {n source : ℕ} {branches : List (List ℕ)} (T : TreeFrom n source branches) where
  abbrev next : ℕ → List ℕ
  next = tree_neighbours branches n

  abbrev parents : List ℕ
  parents = parents_from (tree_neighbours branches n) n source

  pub tree-chained : (v : ℕ) → (v ≡ source) ⊎ OnSome v branches → Chained (tree_neighbours branches n) source v
  tree-chained v (inl e) = rw e (chained-here (tree_neighbours branches n) source)
  tree-chained v (inr i) = grafts_chained branches n T.within source T.order T.of_tree T.grafted v (T.all v i)

  -- the path by parents leads to each of its cells
  pub tree-path : (v : ℕ) → (v ≡ source) ⊎ OnSome v branches
      → PathFrom (tree_neighbours branches n) n source v (root_path (parents_from (tree_neighbours branches n) n source) v)
  tree-path v i = root-path (tree_neighbours branches n) n source (neighbours-below branches n) T.source_in v (tree-chained v i)

-- by steps of the room
pub path-goes : {R : Room} → Good R → (branches : List (List ℕ)) → AllSteps R branches → {n source v : ℕ} {path : List ℕ}
    → PathFrom (tree_neighbours branches n) n source v path → Steps R path
path-goes G branches S {n} {source} {v} W = rw W.begins (chain-goes G branches S n source W.rest v W.chain)
