-- `put_sheet` meets its contract: over the limit, or what `put_routed` puts.
use Rattle.route.specs.PrintedLaws.{over-fits, printed-over, printed_not_over}
use Rattle.route.proofs.printing.put_sheet.Goals as goal

pub put_refused-requires : goal.put_refused-requires
put_refused-requires c = over-fits c.requires

pub returns-then-too_large : goal.returns-then-too_large
returns-then-too_large c = printed-over c.too_large.ensures c.if-too_large.true c.requires c.put_refused.ensures

pub returns : goal.returns
returns c = printed_not_over c.too_large.ensures c.if-too_large.false c.put_routed.ensures
