-- The defined search: best first over any graph. This file is what a reader must believe of "One search"; nothing here knows of rooms, kinds or
-- prices.
-- Unknown is 0: a known cost d stands in `known` as d + 1, the cell before another stands in `previous` as its number + 1.
use Rattle.std.specs.Prelude.{Bool, true, false, List, [], ◌∷◌, ℕ, zero, suc, ◌+◌, pred, length, get_or, set, replicate, ltb, eqb}
use Rattle.basics.specs.Tests.{either}

-- one of a cell's moves: the cell that it enters, and what that costs
pub record Move : Type 0 where
  pub to : ℕ
  pub cost : ℕ

-- what is searched: the moves out of each cell in their order, the estimate of what is left from it, the number of cells, the two ends, and the
-- places of the queue
pub record Graph : Type 0 where
  pub moves : ℕ → List Move
  pub estimate : ℕ → ℕ
  pub size : ℕ
  pub start : ℕ
  pub goal : ℕ
  pub places : ℕ

-- a waiting entry: its cost when pushed plus the estimate, its serial, its cell
pub record Entry : Type 0 where
  pub key : ℕ
  pub serial : ℕ
  pub cell : ℕ

-- the state between two takings. The start has serial 0 and each push the next number, so `serial`, the last one given, counts the pushes
pub record State : Type 0 where
  pub known : List ℕ
  pub previous : List ℕ
  pub waiting : List Entry
  pub serial : ℕ
  pub expanded : ℕ

-- a is taken before b: the lesser key, ties by serial
unfoldable pub sooner : Entry → Entry → Bool
sooner a b = either (ltb a.key b.key) true (either (eqb a.key b.key) (ltb a.serial b.serial) false)

-- the entry taken next, and those that still wait
pub record Taken : Type 0 where
  pub next : Entry
  pub left : List Entry

abbrev pub keep : Entry → Taken → Taken
keep x t = record { next = t.next; left = x ∷ t.left }

-- the least of e and the others is taken
unfoldable pub least : Entry → List Entry → Taken
least e [] = record { next = e; left = [] }
least e (x ∷ xs) = keep (either (sooner x e) e x) (least (either (sooner x e) x e) xs)

-- is the cost c lower than what is noted of a cell? Unknown is dearer than any cost
abbrev pub cheaper : ℕ → ℕ → Bool
cheaper c zero = true
cheaper c (suc d) = ltb c d

-- cell v is known at cost c by way of u, and waits
unfoldable pub push : Graph → ℕ → ℕ → ℕ → State → State
push G u v c s = record {
  known = set s.known v (suc c);
  previous = set s.previous v (suc u);
  waiting = record { key = c + G.estimate v; serial = suc s.serial; cell = v } ∷ s.waiting;
  serial = suc s.serial;
  expanded = s.expanded;
}

-- a push may find the queue full
pub data Pushed : Type 0 where
  full : Pushed
  on : State → Pushed

-- v is offered at cost c by way of u: a push happens only on a strictly lower cost, and needs a place in the queue
unfoldable pub offer : Graph → ℕ → ℕ → ℕ → State → Pushed
offer G u v c s =
    either (cheaper c (get_or s.known v 0)) (either (ltb (length s.waiting) G.places) (on (push G u v c s)) full) (on s)

-- the moves out of u, whose cost is d, one by one
unfoldable pub expand : Graph → ℕ → ℕ → List Move → State → Pushed
expand G u d [] s = on s
expand G u d (m ∷ ms) s = elim (offer G u m.to (d + m.cost) s) [ full ↦ full | on r ↦ expand G u d ms r ]

-- the path by predecessors: the cells that lead to v, before those of rest; at most n of them
unfoldable pub trace : ℕ → List ℕ → ℕ → List ℕ → List ℕ
trace zero previous v rest = rest
trace (suc n) previous v rest = elim (get_or previous v 0) [ zero ↦ v ∷ rest | suc u ↦ trace n previous u (v ∷ rest) ]

-- a route with its path, its cost and the expanded count; or why there is none, with the expanded count
pub data Answer : Type 0 where
  route : List ℕ → ℕ → ℕ → Answer
  no_route : ℕ → Answer
  limit-passed : ℕ → Answer
  queue-full : ℕ → Answer

-- what the next taking does: it ends the search, or cell u is to be expanded in a state that counts it
pub data AfterTake : Type 0 where
  ends : Answer → AfterTake
  expands : ℕ → State → AfterTake

-- the goal is taken: its path and its known cost
abbrev pub arrived : Graph → State → Answer
arrived G s = route (trace G.size s.previous G.goal []) (pred (get_or s.known G.goal 0)) s.expanded

-- any other cell taken adds 1 to the expanded count
abbrev pub one_more_expanded : State → List Entry → State
one_more_expanded s w = record { known = s.known; previous = s.previous; waiting = w; serial = s.serial; expanded = suc s.expanded }

abbrev pub takes : Graph → State → Taken → AfterTake
takes G s t = either (eqb t.next.cell G.goal) (ends (arrived G s)) (expands t.next.cell (one_more_expanded s t.left))

unfoldable pub take_one : Graph → State → AfterTake
take_one G s = elim s.waiting [ [] ↦ ends (no_route s.expanded) | e ∷ es ↦ takes G s (least e es) ]

-- b more cells may be expanded; one more than that passes the node limit, before its moves
unfoldable pub take_all : Graph → ℕ → State → Answer
take_all G zero s = elim (take_one G s) [ ends a ↦ a | expands u t ↦ limit-passed t.expanded ]
take_all G (suc b) s =
    elim (take_one G s) [
      | ends a ↦ a
      | expands u t ↦ elim (expand G u (pred (get_or t.known u 0)) (G.moves u) t) [ full ↦ queue-full t.expanded | on r ↦ take_all G b r ]
    ]

-- the start is known at cost 0 and waits
unfoldable pub first_state : Graph → State
first_state G = record {
  known = set (replicate G.size 0) G.start 1;
  previous = replicate G.size 0;
  waiting = record { key = G.estimate G.start; serial = 0; cell = G.start } ∷ [];
  serial = 0;
  expanded = 0;
}

-- the search at a node limit
unfoldable pub best_first : Graph → ℕ → Answer
best_first G limit = take_all G limit (first_state G)
