-- The blocks of a sheet laid out in the room, and number 7 of docs/RULES.md. Definitions alone; their laws are in BlockLaws.
use Rattle.std.specs.Prelude.{◌≡◌, ◌⊎◌, List, [], ◌∷◌, ℕ, zero, suc, ◌+◌, ◌≤◌, ◌<◌, eqb, length, get_or, replicate, Result, Ok, Err}
use Rattle.basics.specs.Tests.{either}
use Rattle.room.specs.declared.Room.{Room}
use Rattle.room.specs.Room.{volume, cell_of}
use Rattle.room.specs.Units.{air}
use Rattle.job_sheet.specs.declared.Block.{Block}
use Rattle.job_sheet.specs.Places.{no_block}
use Rattle.blocks.specs.declared.Overlap.{Overlap}

-- the cell that a block takes
abbrev pub block_cell : Room → Block → ℕ
block_cell R b = cell_of R b.at

-- ---- what stands in each cell

-- what f says of the block in cell v, or this where there is none. Of two blocks in one cell the first counts: where number 7 is not due there is
-- one at most
unfoldable pub of_block : {X : Type 0} → (Block → X) → X → Room → List Block → ℕ → X
of_block f none R [] v = none
of_block f none R (b ∷ bs) v = either (eqb (block_cell R b) v) (f b) (of_block f none R bs v)

-- the kind of cell v: Air where there is no block
abbrev pub kind_of : Room → List Block → ℕ → ℕ
kind_of R bs v = of_block (λ b. b.kind) air R bs v

-- one more than the node of the block in cell v; 0 where there is none
abbrev pub node_of : Room → List Block → ℕ → ℕ
node_of R bs v = of_block (λ b. b.node + 1) 0 R bs v

-- f 0, f 1 and so on, n of them
unfoldable pub tabulated : ℕ → (ℕ → ℕ) → List ℕ
tabulated zero f = []
tabulated (suc n) f = f 0 ∷ tabulated n (λ v. f (suc v))

abbrev pub kinds_of : Room → List Block → List ℕ
kinds_of R bs = tabulated (volume R) (kind_of R bs)

abbrev pub nodes_of : Room → List Block → List ℕ
nodes_of R bs = tabulated (volume R) (node_of R bs)

-- ---- number 7, "two blocks in one cell"

-- cell, node and kind of record i
abbrev pub record_cell : Room → List Block → ℕ → ℕ
record_cell R bs i = block_cell R (get_or bs i no_block)

abbrev pub record_node : List Block → ℕ → ℕ
record_node bs i = (get_or bs i no_block).node

abbrev pub record_kind : List Block → ℕ → ℕ
record_kind bs i = (get_or bs i no_block).kind

-- of the first n records, i is one "whose cell a lower node or an earlier record of the same node holds"
pub record Repeat (R : Room) (bs : List Block) (n i : ℕ) : Type 0 where
  pub repeat_in : i < n
  pub holder : ℕ
  pub holder_in : holder < n
  pub same-cell : record_cell R bs holder ≡ record_cell R bs i
  pub held : (record_node bs holder < record_node bs i) ⊎ ((record_node bs holder ≡ record_node bs i) × (holder < i))

-- "least node, then least cell": record j does not come before record i
abbrev pub NotAfter : Room → List Block → ℕ → ℕ → Type 0
NotAfter R bs i j = (record_node bs i < record_node bs j) ⊎ ((record_node bs i ≡ record_node bs j) × (record_cell R bs i ≤ record_cell R bs j))

-- what laying out comes to: each block has a cell of its own, or number 7 is due, with the cell of the repeat
abbrev pub Placement : Type 0
Placement = Result Unit Overlap

abbrev pub Placed : Placement
Placed = Ok tt

abbrev pub RepeatAt : ℕ → Placement
RepeatAt v = Err (record { cell = v })

-- what the first n records come to: each has a cell of its own, or "cell of the repeat: of all [repeats] the one of least node, then least cell"
pub data Placing (R : Room) (bs : List Block) (n : ℕ) (r : Placement) : Type 0 where
  each-its-own : ((i : ℕ) → Repeat R bs n i → ⊥) → r ≡ Placed → Placing R bs n r
  one-repeated : (i : ℕ) → Repeat R bs n i → ((j : ℕ) → Repeat R bs n j → NotAfter R bs i j) → r ≡ RepeatAt (record_cell R bs i) → Placing R bs n r

-- what a buffer of the room holds in the end: this, or zeros, as "7 to 15 leave every lent writable buffer zero"
abbrev pub left_by : Placement → Room → List ℕ → List ℕ
left_by (Ok placed) R l = l
left_by (Err repeat) R l = replicate (volume R) 0

-- the blocks are laid out, or number 7 is due
pub record BlocksLaid (R : Room) (bs : List Block) (kinds nodes : List ℕ) (r : Placement) : Type 0 where
  pub placing : Placing R bs (length bs) r
  pub kinds-are : kinds ≡ left_by r R (kinds_of R bs)
  pub nodes-are : nodes ≡ left_by r R (nodes_of R bs)
