-- `put_branch` meets its contract, piece by piece.
use Rattle.route.specs.Lines.{branch_word}
use Rattle.route.specs.LineLaws.{listed-fit, line-end-fits, line-put}
use Rattle.route.proofs.lines.put_branch.Goals as goal

pub put_cells-listed-requires : goal.put_cells-listed-requires
put_cells-listed-requires c = listed-fit branch_word c.args.cells.now c.put_bytes-named.ensures c.requires

pub put_bytes-requires : goal.put_bytes-requires
put_bytes-requires c = line-end-fits branch_word c.args.cells.now c.put_bytes-named.ensures c.requires c.put_cells-listed.ensures

pub returns : goal.returns
returns c = line-put branch_word c.args.cells.now c.put_bytes-named.ensures c.put_cells-listed.ensures c.put_bytes.ensures
