-- `place_block` meets its contract: the block's cell is one of the room, and what is stored there fits.
use mathlib.Core.Path.{◌≡◌}
use Prim.Native.Nat.{ℕ, ◌+◌, ◌≤◌, ◌<◌}
use native.Mathlib.Omega.{arith}
use borrow.Author.Rules.{rules}
use Rattle.room.specs.declared.Room.{Room}
use Rattle.room.specs.declared.Pos.{Pos}
use Rattle.room.specs.Room.{Good, Within, volume, cell_of}
use Rattle.room.specs.RoomLaws.{cell_in}
use Rattle.blocks.specs.Laying.{lesser_kept, per_node}
use Rattle.blocks.proofs.LayingLaws.{lesser-is}
use Rattle.blocks.proofs.place_block.Goals as goal

cell-small : {R : Room} {p : Pos} → Good R → Within R p → (cell : ℕ) → cell ≡ cell_of R p → (cell < volume R) × (cell < per_node)
cell-small {R} {p} G w cell e = let h = cell_in R p w in rw e (h, omega (arith, G.few))

not_higher : (known node kept : ℕ) → kept ≡ lesser_kept known (node + 1) → kept ≤ node + 1
not_higher known node kept e = rw e ((lesser-is known (node + 1)).to-second (omega arith)).1

pub offset_bounds-nodes-cell : goal.offset_bounds-nodes-cell
offset_bounds-nodes-cell c =
    omega (arith, cell-small c.requires.good c.requires.within _ c.cell-cell.ensures)

pub bounds-nodes-cell : goal.bounds-nodes-cell
bounds-nodes-cell c =
    omega (arith, cell-small c.requires.good c.requires.within _ c.cell-cell.ensures, c.requires.kinds_len)

pub bounds-kinds-cell : goal.bounds-kinds-cell
bounds-kinds-cell c =
    omega (arith, cell-small c.requires.good c.requires.within _ c.cell-cell.ensures, c.requires.kinds_len)

pub overflow_cast-nodes : goal.overflow_cast-nodes
overflow_cast-nodes c = omega (arith, not_higher _ _ _ c.lesser_kept.ensures, c.well_formed)

pub offset_bounds-nodes-cell-2 : goal.offset_bounds-nodes-cell-2
offset_bounds-nodes-cell-2 c =
    omega (arith, cell-small c.requires.good c.requires.within _ c.cell-cell.ensures)

pub bounds-nodes-cell-2 : goal.bounds-nodes-cell-2
bounds-nodes-cell-2 c =
    omega (arith, cell-small c.requires.good c.requires.within _ c.cell-cell.ensures, c.requires.kinds_len)

pub repeat_number-requires : goal.repeat_number-requires
repeat_number-requires c = (
  c.as_index-known.ensures.1,
  search rules,
  (cell-small c.requires.good c.requires.within _ c.cell-cell.ensures).1,
)

pub returns : goal.returns
returns c =
    let cell = c.cell-cell.ensures in
    let known = c.as_index-known.ensures.0 in
    record {
      kinds-are = rw cell;
      nodes-are = rw (c.lesser_kept.ensures, known, cell);
      found-is = rw (c.lesser_kept-2.ensures, c.repeat_number.ensures, known, cell);
    }
