-- What a walk has come to between two visits. `met` holds the cells reached, the last first.
use Rattle.std.specs.Prelude.{◌≡◌, ◌⊎◌, List, [], ◌∷◌, ℕ, suc, ◌+◌, ◌≤◌, ◌<◌, length, get_or}
use Rattle.basics.specs.Lists.{In}
use Rattle.best_first.specs.ListsAfterSet.{nonzeros}

-- cell v has a parent among these cells, one step before it
pub record HasParent (next : ℕ → List ℕ) (parents earlier : List ℕ) (v : ℕ) : Type 0 where
  pub parent : ℕ
  pub noted : get_or parents v 0 ≡ suc parent
  pub met-before : In parent earlier
  pub step : In v (next parent)

-- the source was met first, and each other cell is new and has its parent among those met before it
abbrev pub MetInOrder : (ℕ → List ℕ) → ℕ → List ℕ → List ℕ → Type 0
MetInOrder next source parents [] = ⊥
MetInOrder next source parents (v ∷ []) = v ≡ source
MetInOrder next source parents (v ∷ (w ∷ earlier)) = (In v (w ∷ earlier) → ⊥) × HasParent next parents (w ∷ earlier) v × MetInOrder next source parents (w ∷ earlier)

-- the walk between two meetings: the cells visited and those that wait are the cells reached, each once
pub record Walked (next : ℕ → List ℕ) (n source : ℕ) (visited met parents waiting : List ℕ) : Type 0 where
  pub long : length parents ≡ n
  pub in_order : MetInOrder next source parents met
  pub root : 0 < get_or parents source 0
  pub counted : nonzeros parents ≡ length met
  pub reached : (v : ℕ) → 0 < get_or parents v 0 → In v met
  pub came : (v : ℕ) → In v met → In v visited ⊎ In v waiting
  pub waits : (v : ℕ) → In v waiting → In v met
  pub line : length met ≡ length visited + length waiting

-- each step from these cells leads to a cell that is reached
abbrev pub AllMet : (ℕ → List ℕ) → List ℕ → List ℕ → Type 0
AllMet next cells met = (u : ℕ) → In u cells → (v : ℕ) → In v (next u) → In v met

-- the walk is over, and the source has no parent
pub record WalkedAll (next : ℕ → List ℕ) (n source : ℕ) (met parents : List ℕ) : Type 0 where
  pub long : length parents ≡ n
  pub in_order : MetInOrder next source parents met
  pub root : get_or parents source 0 ≡ 0
  pub reached : (v : ℕ) → 0 < get_or parents v 0 → In v met
  pub inside : (v : ℕ) → In v met → v < n
  pub few : length met ≤ n
  pub closed : AllMet next met met

-- each cell of the list is the parent of the next
abbrev pub ByParents : List ℕ → List ℕ → Type 0
ByParents parents [] = Unit {0}
ByParents parents (a ∷ []) = Unit {0}
ByParents parents (a ∷ (b ∷ rest)) = (get_or parents b 0 ≡ suc a) × ByParents parents (b ∷ rest)
