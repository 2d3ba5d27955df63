-- docs/MORE-RULES.md, The plain engine, over any graph: what its sweeps keep, where they end and why. Definitions alone. A known cost stands with 1
-- added and unknown is 0, as in a search; a predecessor u stands as u + 1.
use Rattle.std.specs.Prelude.{◌≡◌, Bool, true, false, List, [], ◌∷◌, ℕ, zero, suc, ◌+◌, ◌*◌, ◌≤◌, ◌<◌, length, get_or, ltb}
use Rattle.basics.specs.Lists.{In}
use Rattle.basics.specs.Counts.{times}
use Rattle.best_first.specs.Search.{Graph, Move}
use Rattle.best_first.specs.Ways.{Way}
use Rattle.best_first.proofs.Base.{Loose}
use Rattle.best_first.proofs.Predecessors.{Linked}

-- ---- what is claimed

-- a way leads from the start to v
abbrev pub Reachable : Graph → ℕ → Type 0
Reachable G v = (l : List ℕ) × (d : ℕ) × Way G G.start l v d

-- k counts the cells that a way leads to, the start included: `marks` is not 0 at exactly these
pub record ReachedCount (G : Graph) (k : ℕ) : Type 0 where
  pub marks : List ℕ
  pub long : length marks ≡ G.size
  pub marked : (v : ℕ) → 0 < get_or marks v 0 → Reachable G v
  pub all : (v : ℕ) → Reachable G v → 0 < get_or marks v 0
  pub counted : times (ltb 0) marks ≡ k

-- ---- what the sweeps keep

-- each known cell is the start or has a link to the cell before it, no known cost is above the known cells less one times the dearest move, and each
-- predecessor is a cell. `ages` has the number of each cell's last lowering, `serial` that of the last of all: so links make no ring, even at cost 0
pub record Grounded (G : Graph) (dearest : ℕ) (known previous : List ℕ) : Type 0 where
  pub ages : List ℕ
  pub serial : ℕ
  pub linked : Linked G ages known previous serial
  pub low : (v : ℕ) → 0 < get_or known v 0 → get_or known v 0 + dearest ≤ suc (dearest * times (ltb 0) known)
  pub previous_in : (v : ℕ) → get_or previous v 0 ≤ G.size

-- a sweep would change nothing: no move out of a known cell offers a lower cost
abbrev pub AtRest : Graph → List ℕ → Type 0
AtRest G known = (u : ℕ) (m : Move) → 0 < get_or known u 0 → In m (G.moves u) → Loose known u m

-- ---- why the sweeps end

-- the sum of the known costs, unknown counted as `top`
unfoldable pub known_sum : ℕ → List ℕ → ℕ
known_sum top [] = 0
known_sum top (zero ∷ l) = top + known_sum top l
known_sum top (suc x ∷ l) = suc x + known_sum top l

-- above every known cost, and above every cost that is offered
abbrev pub above_all : Graph → ℕ → ℕ
above_all G dearest = suc (suc (G.size * dearest))

-- what some lowerings come to: a lower sum, or nothing has changed
pub record Progress (G : Graph) (dearest : ℕ) (changed : Bool) (known known' : List ℕ) : Type 0 where
  pub falls : changed ≡ true → known_sum (above_all G dearest) known' < known_sum (above_all G dearest) known
  pub same : changed ≡ false → known' ≡ known

-- no known cost rises
abbrev pub NoHigher : List ℕ → List ℕ → Type 0
NoHigher known known' = (v : ℕ) → 0 < get_or known v 0 → (0 < get_or known' v 0) × (get_or known' v 0 ≤ get_or known v 0)

-- the move m of u has been tried at u's cost or a lower one
pub record TriedFrom (known known' : List ℕ) (u : ℕ) (m : Move) : Type 0 where
  pub is_known : 0 < get_or known' m.to 0
  pub cheap : get_or known' m.to 0 ≤ get_or known u 0 + m.cost

-- no way of at most k steps is cheaper than what is known
abbrev pub BeatenBy : Graph → ℕ → List ℕ → Type 0
BeatenBy G k known = (l : List ℕ) (t d : ℕ) → length l ≤ k → Way G G.start l t d → (0 < get_or known t 0) × (get_or known t 0 ≤ suc d)
