-- `put_answer` meets its contract: a tree, or a refusal.
use Rattle.route.proofs.lines.put_answer.Goals as goal

pub put_tree-requires-clause-branched : goal.put_tree-requires-clause-branched
put_tree-requires-clause-branched c = rw c.in-Ok.is at c.requires.branched

pub put_tree-requires-clause-fits : goal.put_tree-requires-clause-fits
put_tree-requires-clause-fits c = rw c.in-Ok.is at c.requires.fits

pub put_refused-requires : goal.put_refused-requires
put_refused-requires c = rw c.in-Err.is at c.requires.fits

pub returns-in-Ok : goal.returns-in-Ok
returns-in-Ok c = rw c.in-Ok.is c.put_tree.ensures

pub returns-in-Err : goal.returns-in-Err
returns-in-Err c = rw c.in-Err.is c.put_refused.ensures
