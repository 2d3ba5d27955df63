-- `put_if_marked` meets its contract: a number, or nothing.
use Rattle.route.specs.LineLaws.{if_unmarked, if_marked_lem}
use Rattle.putting.specs.PutLaws.{put-nothing}
use Rattle.route.proofs.lines.put_if_marked.Goals as goal

pub returns-else-mark-eq-MARKED : goal.returns-else-mark-eq-MARKED
returns-else-mark-eq-MARKED c = rw (if_unmarked _ _ c.if-mark-eq-MARKED.false) put-nothing

pub put_number-requires : goal.put_number-requires
put_number-requires c = rw (if_marked_lem c.args.mark c.args.cell c.if-mark-eq-MARKED.true) at c.requires

pub returns-then-mark-eq-MARKED : goal.returns-then-mark-eq-MARKED
returns-then-mark-eq-MARKED c = rw (if_marked_lem c.args.mark c.args.cell c.if-mark-eq-MARKED.true) c.put_number.ensures
