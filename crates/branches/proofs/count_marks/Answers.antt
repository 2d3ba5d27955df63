-- `count_marks` meets its contract: the filter lets the marked cells through.
use borrow.Author.Rules.{rules}
use Rattle.std.proofs.Common.{◌∙◌, tests, eqb}
use Rattle.std.proofs.lemmas.Iterator.{YieldsList-from_slice}
use Rattle.std.proofs.lemmas.Iterator.Consumers.{YieldsList-from_filter, count_from_yields_List}
use Rattle.branches.specs.LoopLaws.{counted}
use Rattle.branches.proofs.count_marks.Goals as goal

pub returns : goal.returns
returns c =
    count_from_yields_List c.filter.result _ c.count.ensures.ran (YieldsList-from_filter _ (λ m. eqb m 1) (YieldsList-from_slice c.args.marks.now cc) c.filter.ensures.closure (λ x r q k. search (rules, tests)))
    ∙ counted c.args.marks.now
