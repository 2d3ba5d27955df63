-- `too_large` meets its contract: number 1 first, then the room of what the sheet means.
use borrow.Author.Rules.{rules}
use mathlib.Core.Path.{refl}
use Rattle.route.specs.PrintedLaws.{size-unread, has_meaning, size-judged}
use Rattle.route.proofs.printing.too_large.Goals as goal

pub returns-then-means_nothing : goal.returns-then-means_nothing
returns-then-means_nothing c = size-unread c.read_sheet-reading.ensures c.number-means_nothing.ensures c.if-means_nothing.true refl

pub returns : goal.returns
returns c = size-judged (has_meaning c.read_sheet-reading.ensures c.number-means_nothing.ensures (search rules)) c.cells_in.ensures
