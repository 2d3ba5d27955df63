-- How the code lays blocks out, one after another: what is kept of those so far. Definitions alone; their laws are in LayingLaws.
use Rattle.std.specs.Prelude.{◌≡◌, List, ℕ, ◌+◌, ◌-◌, ◌*◌, ◌≤◌, ◌<◌, eqb, ltb, length, get_or, set}
use Rattle.basics.specs.Tests.{either}
use Rattle.room.specs.declared.Room.{Room}
use Rattle.room.specs.Room.{volume}
use Rattle.room.specs.Units.{air}
use Rattle.job_sheet.specs.declared.Block.{Block}
use Rattle.blocks.specs.Blocks.{block_cell, record_cell, record_node, record_kind, Repeat}

-- the lesser of two numbers of which 0 stands for none
unfoldable pub lesser_kept : ℕ → ℕ → ℕ
lesser_kept a b = either (eqb a 0) b (either (eqb b 0) a (either (ltb b a) b a))

-- so many numbers are kept for the cells of one node: a cell's number is below it
abbrev pub per_node : ℕ
per_node = 65536

-- a node and a cell as one number, never 0: "least node, then least cell" is the least number
abbrev pub numbered : ℕ → ℕ → ℕ
numbered node v = node * per_node + v + 1

-- The repeat that a block of one node makes in the cell v, whose least node so far is another; both are given as one more, and 0 is none. Whichever
-- came first, the higher node's block is the repeat, as "a lower node [..] holds" its cell
unfoldable pub repeat_number : ℕ → ℕ → ℕ → ℕ
repeat_number known one_more v = either (eqb known 0) 0 (numbered (either (ltb known one_more) one_more known - 1) v)

-- one block added to what is kept: its kind, the least node of its cell, and the least repeat
pub record BlockAdded (R : Room) (b : Block) (kinds nodes : List ℕ) (found : ℕ) (kinds' nodes' : List ℕ) (found' : ℕ) : Type 0 where
  pub kinds-are : kinds' ≡ set kinds (block_cell R b) b.kind
  pub nodes-are : nodes' ≡ set nodes (block_cell R b) (lesser_kept (get_or nodes (block_cell R b) 0) (b.node + 1))
  pub found-is : found' ≡ lesser_kept found (repeat_number (get_or nodes (block_cell R b) 0) (b.node + 1) (block_cell R b))

-- what is kept of a cell's node is that of a block in the cell, or none
pub data Noted (R : Room) (bs : List Block) (k v : ℕ) (kept : ℕ) : Type 0 where
  no_block_lem : kept ≡ 0 → Noted R bs k v kept
  of-block : (j : ℕ) → j < k → record_cell R bs j ≡ v → kept ≡ record_node bs j + 1 → Noted R bs k v kept

-- what is kept of a repeat is that of a repeat, or none
pub data RepeatFound (R : Room) (bs : List Block) (k : ℕ) (found : ℕ) : Type 0 where
  no_repeat : found ≡ 0 → RepeatFound R bs k found
  of-repeat : (i : ℕ) → Repeat R bs k i → found ≡ numbered (record_node bs i) (record_cell R bs i) → RepeatFound R bs k found

-- what is kept of the first k blocks
pub record Kept (R : Room) (bs : List Block) (k : ℕ) (kinds nodes : List ℕ) (found : ℕ) : Type 0 where
  pub kinds-long : length kinds ≡ volume R
  pub nodes-long : length nodes ≡ volume R
  pub noted : (v : ℕ) → v < volume R → Noted R bs k v (get_or nodes v 0)
  pub least_node : (j : ℕ) → j < k → (1 ≤ get_or nodes (record_cell R bs j) 0) × (get_or nodes (record_cell R bs j) 0 ≤ record_node bs j + 1)
  pub bare : (v : ℕ) → v < volume R → get_or nodes v 0 ≡ 0 → get_or kinds v 0 ≡ air
  pub kinds-are : found ≡ 0 → (j : ℕ) → j < k → get_or kinds (record_cell R bs j) 0 ≡ record_kind bs j
  pub repeat : RepeatFound R bs k found
  pub least-repeat : (j : ℕ) → Repeat R bs k j → (1 ≤ found) × (found ≤ numbered (record_node bs j) (record_cell R bs j))
