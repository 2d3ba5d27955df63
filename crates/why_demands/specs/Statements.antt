-- "The reason must be true": what `why_no_route` tells on number 11, said of lawful steps. Definitions alone; the theorems are in the file Theorems beside
-- it.
use Rattle.std.specs.Prelude.{◌≡◌, ◌↔◌, false, List, ℕ, ◌+◌, ◌*◌, ◌≤◌, ◌<◌, get_or, Some, None}
use Rattle.room.specs.declared.RouterConfig.{RouterConfig}
use Rattle.room.specs.Room.{volume, move_at, neighbour}
use Rattle.room_search.specs.Routing.{Task, routeable, bearing}
use Rattle.routing.specs.Answers.{Input, task_in}
use Rattle.flood.specs.Walls.{allowed, outside}
use Rattle.why.specs.Why.{taken, bad_support}
use Rattle.demands.specs.Lawful.{support_of, LawfulStep, LawfulSteps}
use Rattle.demands.specs.Statements.{NoLawfulWay}

-- lawful steps lead from the start to v
pub record LawfullyReached (T : Task) (v : ℕ) : Type 0 where
  pub cells : List ℕ
  pub steps : LawfulSteps T T.start cells v

-- ---- of the move i out of cell u

-- it is a lawful step
pub record LawfulMove (T : Task) (u i : ℕ) : Type 0 where
  pub cell : ℕ
  pub there : neighbour T.room u (move_at i) ≡ Some cell
  pub step : LawfulStep T u cell

-- the cell there is taken
pub record Taken (T : Task) (u i : ℕ) : Type 0 where
  pub cell : ℕ
  pub there : neighbour T.room u (move_at i) ≡ Some cell
  pub is-taken : routeable T cell ≡ false

-- what is beneath the cell there bears nothing
pub record BadSupport (T : Task) (u i : ℕ) : Type 0 where
  pub cell : ℕ
  pub there : neighbour T.room u (move_at i) ≡ Some cell
  pub bears-none : bearing (support_of T cell) ≡ 0

-- what a byte says of it: 0 exactly where it is a lawful step, else the least reason that holds. Outside neither of the others holds, so a bad support alone
-- may stand behind another reason
pub record SaysWhy (T : Task) (u i byte : ℕ) : Type 0 where
  pub as_allowed : (byte ≡ allowed) ↔ LawfulMove T u i
  pub as_outside : (byte ≡ outside) ↔ (neighbour T.room u (move_at i) ≡ None)
  pub as_taken : (byte ≡ taken) ↔ Taken T u i
  pub as_bad_support : (byte ≡ bad_support) ↔ (BadSupport T u i × (Taken T u i → ⊥))
  pub no_other : byte ≤ bad_support

-- ---- of the two outputs: a mark a cell, and twelve bytes a cell

pub record WalledIn (T : Task) (reached walls : List ℕ) : Type 0 where
  -- marked are exactly the cells that lawful steps lead to
  pub marked : (v : ℕ) → v < volume T.room → (get_or reached v 0 ≡ 1) ↔ LawfullyReached T v
  pub marks-small : (v : ℕ) → v < volume T.room → get_or reached v 0 ≤ 1
  -- each byte of a cell marked says what stands against its move, the bytes of any other are 0
  pub says-why : (u i : ℕ) → u < volume T.room → i < 12 → get_or reached u 0 ≡ 1 → SaysWhy T u i (get_or walls (12 * u + i) 0)
  pub unreached : (u i : ℕ) → u < volume T.room → i < 12 → get_or reached u 0 ≡ 0 → get_or walls (12 * u + i) 0 ≡ 0
  -- "the cells reached hold the start, lack the goal, and no lawful step leaves them"
  pub start_in : get_or reached T.start 0 ≡ 1
  pub goal-out : get_or reached T.goal 0 ≡ 0
  pub none-leaves : (u v : ℕ) → u < volume T.room → get_or reached u 0 ≡ 1 → LawfulStep T u v → get_or reached v 0 ≡ 1
  -- "Every lawful way must therefore be impossible, at any costs", and at any node limit and places of the queue
  pub no_way : (C : RouterConfig) (places : ℕ) → NoLawfulWay (task_in T.room C T.kinds T.start T.goal places)

-- ---- of two questions

-- they are asked of one room, its kinds and the two ends, at any costs, limits and lengths of lent memory
pub record SameAsked (I J : Input) : Type 0 where
  pub room-same : I.room ≡ J.room
  pub kinds-same : I.kinds ≡ J.kinds
  pub start-same : I.start ≡ J.start
  pub goal-same : I.goal ≡ J.goal
