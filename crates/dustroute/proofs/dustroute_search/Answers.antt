-- `dustroute_search` keeps its promise: too few values, or the answer of the search, told.
use Rattle.exports.specs.ExportLaws.{exported-short, exported-told}
use borrow.Author.Rules.{rules}
use Rattle.dustroute.proofs.dustroute_search.Goals as goal

pub returns-then-values-lt4 : goal.returns-then-values-lt4
returns-then-values-lt4 c = rw (c.refusal_number.ensures, c.short_refusal.ensures) (exported-short c.if-values-lt4.true)

pub returns : goal.returns
returns c = exported-told c.if-values-lt4.false c.astar_route-answer.ensures c.tell.ensures.value c.tell.ensures.values_after
