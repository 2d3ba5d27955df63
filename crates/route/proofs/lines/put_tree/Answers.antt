-- `put_tree` meets its contract, line by line.
use Rattle.route.specs.BranchLineLaws.{net-fits, branches-fit, repeaters-fit, tree-put}
use Rattle.route.proofs.lines.put_tree.Goals as goal

pub put_net-counted-requires : goal.put_net-counted-requires
put_net-counted-requires c = net-fits c.args.lengths c.args.occupied c.args.cells.now c.args.repeaters.now c.requires.fits

pub put_branches-branched-requires-clause-branched : goal.put_branches-branched-requires-clause-branched
put_branches-branched-requires-clause-branched c = c.requires.branched

pub put_branches-branched-requires-clause-fits : goal.put_branches-branched-requires-clause-fits
put_branches-branched-requires-clause-fits c = branches-fit c.args.lengths c.args.occupied c.args.cells.now c.args.repeaters.now c.requires.fits c.put_net-counted.ensures

pub put_repeaters-requires : goal.put_repeaters-requires
put_repeaters-requires c = repeaters-fit c.args.lengths c.args.occupied c.args.cells.now c.args.repeaters.now c.requires.fits c.put_net-counted.ensures c.put_branches-branched.ensures

pub returns : goal.returns
returns c = tree-put c.args.lengths c.args.occupied c.args.cells.now c.args.repeaters.now c.requires.fits c.put_net-counted.ensures c.put_branches-branched.ensures c.put_repeaters.ensures
