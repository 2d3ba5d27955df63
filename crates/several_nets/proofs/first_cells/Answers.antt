-- `first_cells` meets its contract: the first sheet, read.
use Rattle.several_nets.specs.FirstLaws.{bytes_take, first-accepted, first-room}
use Rattle.job_list.specs.SplitLaws.{long-most}
use Rattle.outset.specs.SetOutLaws.{good-room}
use lib.Seq.{length-take-le}
use lib.ListN.{take}
use mathlib.Core.Path.{sym, ap, ◌∙◌}
use native.Mathlib.Omega.{arith}
use Rattle.several_nets.proofs.first_cells.Goals as goal

pub slice_bounds-read_sheet-end : goal.slice_bounds-read_sheet-end
slice_bounds-read_sheet-end c = sym (length-take-le _ c.args.list.now (omega (arith, c.sheet_size-first.ensures, long-most c.args.list.now)))

pub volume-requires : goal.volume-requires
volume-requires c = good-room (first-accepted c.args.list.now c.requires (ap (λ n. take n c.args.list.now) c.sheet_size-first.ensures) (bytes_take c.sheet_size-first.result c.args.list.now (λ i. omega (arith, c.type_inv.list i))) c.read_sheet-reading.ensures)

pub returns : goal.returns
returns c = c.volume.ensures ∙ first-room c.args.list.now (ap (λ n. take n c.args.list.now) c.sheet_size-first.ensures) (first-accepted c.args.list.now c.requires (ap (λ n. take n c.args.list.now) c.sheet_size-first.ensures) (bytes_take c.sheet_size-first.result c.args.list.now (λ i. omega (arith, c.type_inv.list i))) c.read_sheet-reading.ensures)
