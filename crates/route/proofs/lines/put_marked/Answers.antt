-- `put_marked` meets its contract: what is put, and what is left to put, are the whole.
use borrow.Author.Rules.{rules}
use Rattle.route.specs.LineLaws.{mark-fits, marks-on, marks-done}
use Rattle.route.proofs.lines.put_marked.Goals as goal

pub put_if_marked-end-requires : goal.put_if_marked-end-requires
put_if_marked-end-requires c = mark-fits c.args.marks.now c.loop-cell.cell c.loop-cell.invariant (search rules) c.requires

pub loop-cell-preserved : goal.loop-cell-preserved
loop-cell-preserved c = marks-on c.args.marks.now c.loop-cell.cell c.loop-cell.invariant (search rules) c.put_if_marked-end.ensures

pub returns : goal.returns
returns c = marks-done c.args.marks.now c.loop-cell.cell c.loop-cell.invariant (search rules)
