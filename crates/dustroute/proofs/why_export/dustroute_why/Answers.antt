-- `dustroute_why` keeps its promise: too few values, or the answer of `why_no_route`, told.
use Rattle.exports.specs.WhyExportLaws.{why_export_short, why_export_told}
use borrow.Author.Rules.{rules}
use Rattle.dustroute.proofs.why_export.dustroute_why.Goals as goal

pub returns-then-values-lt4 : goal.returns-then-values-lt4
returns-then-values-lt4 c = rw (c.refusal_number.ensures, c.short_refusal.ensures) (why_export_short c.if-values-lt4.true)

pub returns : goal.returns
returns c = why_export_told c.if-values-lt4.false c.why_no_route-answer.ensures c.tell.ensures.value c.tell.ensures.values_after
