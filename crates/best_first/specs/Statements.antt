-- What the theorems speak of besides the search and its ways: definitions only.
use Rattle.std.specs.Prelude.{◌≡◌, ◌⊎◌, ◌≢◌, Bool, true, false, List, [], ◌∷◌, ℕ, zero, suc, pred, ◌+◌, ◌-◌, ◌*◌, ◌≤◌, ◌<◌, length, get_or, ltb}
use Rattle.basics.specs.Lists.{In}
use Rattle.basics.specs.Counts.{bit}
use Rattle.basics.specs.Sums.{sum_below}
use Rattle.best_first.specs.Search.{Graph, Move, Entry, State, Taken, Pushed, full, on, push, cheaper, expand, one_more_expanded, ends, expands, take_one, first_state, Answer, route, no_route, limit-passed, queue-full}
use Rattle.best_first.specs.Ways.{Way, NoWay}

-- ---- what is said of an answer

-- the path begins with the start, and its rest is a way to the goal whose steps add up to the cost
pub record Lawful (G : Graph) (path : List ℕ) (cost : ℕ) : Type 0 where
  pub rest : List ℕ
  pub begins : path ≡ G.start ∷ rest
  pub way : Way G G.start rest G.goal cost

-- no way is cheaper
abbrev pub Cheapest : Graph → ℕ → Type 0
Cheapest G cost = (l : List ℕ) (d : ℕ) → Way G G.start l G.goal d → cost ≤ d

-- at any costs
abbrev pub Honest : Graph → ℕ → Answer → Type 0
Honest G limit (route path cost x) = Lawful G path cost
Honest G limit (no_route x) = NoWay G
Honest G limit (limit-passed x) = x ≡ limit + 1
Honest G limit (queue-full x) = Unit {0}

-- with a consistent estimate, where no cell has more than `degree` moves
abbrev pub Right : Graph → ℕ → ℕ → Answer → Type 0
Right G degree limit (route path cost x) = Lawful G path cost × Cheapest G cost × (x ≤ degree * G.size)
Right G degree limit (no_route x) = NoWay G × (x ≤ degree * G.size)
Right G degree limit (limit-passed x) = (x ≡ limit + 1) × (x ≤ degree * G.size)
Right G degree limit (queue-full x) = (G.places < degree * G.size) × (x ≤ degree * G.size)

-- it is a route, or "no route"
pub data Decided : Answer → Type 0 where
  by-route : (path : List ℕ) (cost x : ℕ) → Decided (route path cost x)
  by_no_route : (x : ℕ) → Decided (no_route x)

abbrev pub expanded_of : Answer → ℕ
expanded_of (route path cost x) = x
expanded_of (no_route x) = x
expanded_of (limit-passed x) = x
expanded_of (queue-full x) = x

-- ---- the states of a search

-- what is noted of v: its known cost + 1, or 0 where it is unknown
abbrev pub known_at : State → ℕ → ℕ
known_at s v = get_or s.known v 0

-- the cost at which a known cell is expanded
abbrev pub cost_of : State → ℕ → ℕ
cost_of s u = pred (known_at s u)

-- an entry of the least key is taken out of a waiting list. This holds of every order in which the list may stand, and says nothing of ties
pub record Taking (waiting : List Entry) (t : Taken) : Type 0 where
  pub from : In t.next waiting
  pub low : (y : Entry) → In y waiting → t.next.key ≤ y.key
  pub left_in : (y : Entry) → In y t.left → In y waiting
  pub rest : (y : Entry) → In y waiting → (y ≡ t.next) ⊎ In y t.left
  pub len : length waiting ≡ suc (length t.left)

-- the entry r has been taken, q is left, and the moves of its cell are tried
abbrev pub outcome : Graph → State → Entry → List Entry → Pushed
outcome G s r q = expand G r.cell (cost_of s r.cell) (G.moves r.cell) (one_more_expanded s q)

-- the cells that the moves of u push, put before l, the latest first
unfoldable pub entered : Graph → ℕ → ℕ → List Move → State → List ℕ → List ℕ
entered G u d [] s l = l
entered G u d (m ∷ ms) s l =
    elim (cheaper (d + m.cost) (known_at s m.to)) [
      | false ↦ entered G u d ms s l
      | true ↦ elim (ltb (length s.waiting) G.places) [
        | true ↦ entered G u d ms (push G u m.to (d + m.cost) s) (m.to ∷ l)
        | false ↦ l
      ]
    ]

-- those that the moves of r's cell push
abbrev pub entered_by : Graph → State → Entry → List Entry → List ℕ → List ℕ
entered_by G s r q l = entered G r.cell (cost_of s r.cell) (G.moves r.cell) (one_more_expanded s q) l

-- a state between two takings, with the cells pushed so far, the latest first. Any entry of the least key may be taken, and those left may stand in
-- any order: more states than the search reaches, among them those of a search whose queue is a heap
pub data Reached (G : Graph) : List ℕ → State → Type 0 where
  at_first : Reached G [] (first_state G)
  then : {l : List ℕ} {s r : State} (t : Taken) → Reached G l s → Taking s.waiting t → t.next.cell ≢ G.goal → outcome G s t.next t.left ≡ on r
      → Reached G (entered_by G s t.next t.left l) r

-- the lists have a place for each cell, and every number is in range
pub record Bounded (G : Graph) (degree dearest : ℕ) (s : State) : Type 0 where
  pub known-long : length s.known ≡ G.size
  pub previous-long : length s.previous ≡ G.size
  pub cost : (v : ℕ) → known_at s v ≤ (G.size - 1) * dearest + 1
  pub previous_in : (v : ℕ) → get_or s.previous v 0 ≤ G.size
  pub cell_in : (e : Entry) → In e s.waiting → e.cell < G.size
  pub cell-known : (e : Entry) → In e s.waiting → 0 < known_at s e.cell
  pub key : (e : Entry) → In e s.waiting → e.key ≤ (G.size - 1) * dearest + G.estimate e.cell
  pub balance : s.expanded + length s.waiting ≡ suc s.serial
  pub serial : s.serial ≤ degree * s.expanded

-- the known cells hold the start, lack the goal, and no move leaves them
pub record Shut (G : Graph) (known : List ℕ) : Type 0 where
  pub holds-start : 0 < get_or known G.start 0
  pub lacks-goal : get_or known G.goal 0 ≡ 0
  pub none-leaves : (v : ℕ) (m : Move) → 0 < get_or known v 0 → In m (G.moves v) → 0 < get_or known m.to 0

-- ---- how often a cell is pushed

-- the cells that a run pushes, put before l
unfoldable pub pushed_by : Graph → ℕ → State → List ℕ → List ℕ
pushed_by G zero s l = l
pushed_by G (suc b) s l =
    elim (take_one G s) [
      | ends a ↦ l
      | expands u t ↦ elim (expand G u (cost_of t u) (G.moves u) t) [
        | full ↦ entered G u (cost_of t u) (G.moves u) t l
        | on r ↦ pushed_by G b r (entered G u (cost_of t u) (G.moves u) t l)
      ]
    ]

-- the cells that the search pushes at a node limit
abbrev pub pushes : Graph → ℕ → List ℕ
pushes G limit = pushed_by G limit (first_state G) []

-- by how much a move out of u raises cost and estimate together
unfoldable pub slack : Graph → ℕ → Move → ℕ
slack G u m = m.cost + G.estimate m.to - G.estimate u

-- the slacks of the moves into any one cell are among at most k values
pub record Slacks (G : Graph) (k : ℕ) : Type 0 where
  pub values : ℕ → List ℕ
  pub few : (v : ℕ) → length (values v) ≤ k
  pub among : (u : ℕ) (m : Move) → In m (G.moves u) → In (slack G u m) (values m.to)

-- how many of the numbers below n pass a test
abbrev pub count_below : ℕ → (ℕ → Bool) → ℕ
count_below n test = sum_below n (λ v. bit (test v))

-- every move leads to a cell that passes the test, or to the start
pub record OnlyInto (G : Graph) (test : ℕ → Bool) : Type 0 where
  pub passes : (u : ℕ) (m : Move) → In m (G.moves u) → m.to ≢ G.start → test m.to ≡ true
