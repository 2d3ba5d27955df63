-- `place_blocks` meets its contract: what is kept of all blocks tells what laying out comes to.
use mathlib.Core.List.{List}
use Prim.Native.Nat.{ℕ, ◌<◌}
use native.Mathlib.Omega.{arith}
use lib.ListN.{length}
use Rattle.room.specs.declared.Room.{Room}
use Rattle.room.specs.Room.{Good}
use Rattle.job_sheet.specs.declared.Part.{Part}
use Rattle.job_sheet.specs.Accepted.{BlockList}
use Rattle.job_sheet.specs.Places.{blocks_in}
use Rattle.blocks.specs.Blocks.{record_cell}
use Rattle.blocks.specs.Laying.{per_node, Kept}
use Rattle.blocks.proofs.BlockLaws.{record_cells_in, list-within}
use Rattle.blocks.proofs.LayingLaws.{kept-all, kept-refused}
use Rattle.job_sheet.specs.RecordLaws.{blocks-long}
use Rattle.blocks.proofs.place_blocks.Goals as goal

of-all : (sheet : List ℕ) (R : Room) (p : Part) {kinds nodes : List ℕ} {found : ℕ} → Kept R (blocks_in sheet p) p.count kinds nodes found
    → Kept R (blocks_in sheet p) (length (blocks_in sheet p)) kinds nodes found
of-all sheet R p K = rw (blocks-long sheet p) K

cells-small : {sheet : List ℕ} {R : Room} {p : Part} → Good R → BlockList sheet R p (blocks_in sheet p)
    → (i : ℕ) → i < length (blocks_in sheet p) → record_cell R (blocks_in sheet p) i < per_node
cells-small {sheet} {R} {p} G L i h = omega (arith, G.few, record_cells_in R (blocks_in sheet p) (list-within L) i h)

pub returns-then-found-eq0 : goal.returns-then-found-eq0
returns-then-found-eq0 c = kept-all (of-all _ _ _ c.place_each-found.ensures) c.if-found-eq0.true

pub returns : goal.returns
returns c =
    let all = c.place_each-found.ensures in
    let kinds = c.clear.ensures in
    let nodes = c.clear-2.ensures in
    kept-refused (of-all _ _ _ all) c.if-found-eq0.false (cells-small c.requires.good c.requires.block_list) kinds nodes
