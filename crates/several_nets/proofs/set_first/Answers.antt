-- `set_first` meets its contract: the first sheet, read, and its blocks laid out.
use Rattle.several_nets.specs.FirstLaws.{bytes_take, first-accepted, room-asked, first-set}
use Rattle.job_list.specs.SplitLaws.{long-most}
use lib.Seq.{length-take-le}
use lib.ListN.{take}
use mathlib.Core.Path.{sym, ap}
use native.Mathlib.Omega.{arith}
use Rattle.several_nets.proofs.set_first.Goals as goal

pub slice_bounds-read_sheet-end : goal.slice_bounds-read_sheet-end
slice_bounds-read_sheet-end c = sym (length-take-le _ c.args.list.now (omega (arith, c.sheet_size-first.ensures, long-most c.args.list.now)))

pub slice_bounds-set_room-end : goal.slice_bounds-set_room-end
slice_bounds-set_room-end c = sym (length-take-le _ c.args.list.now (omega (arith, c.sheet_size-first.ensures, long-most c.args.list.now)))

pub set_room-requires : goal.set_room-requires
set_room-requires c = room-asked c.requires (ap (λ n. take n c.args.list.now) c.sheet_size-first.ensures) (first-accepted c.args.list.now c.requires.good (ap (λ n. take n c.args.list.now) c.sheet_size-first.ensures) (bytes_take c.sheet_size-first.result c.args.list.now (λ i. omega (arith, c.type_inv.list i))) c.read_sheet-reading.ensures)

pub returns : goal.returns
returns c = first-set c.args.list.now (ap (λ n. take n c.args.list.now) c.sheet_size-first.ensures) (first-accepted c.args.list.now c.requires.good (ap (λ n. take n c.args.list.now) c.sheet_size-first.ensures) (bytes_take c.sheet_size-first.result c.args.list.now (λ i. omega (arith, c.type_inv.list i))) c.read_sheet-reading.ensures) c.set_room.ensures
