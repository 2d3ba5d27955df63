-- `tell_why` meets its contract: two values behind the tree's, or none.
use mathlib.Core.Path.{sym, ◌∙◌}
use native.Mathlib.Omega.{arith}
use lib.ListN.{length-set}
use Rattle.sink_why.specs.SinkWhy.{answer_in, place_in, verdict_in}
use Rattle.sink_reply.specs.SinkReplyLaws.{written_behind, kept-untouched}
use borrow.Author.Rules.{rules}
use Rattle.sink_reply.proofs.tell_why.Goals as goal

pub tell_tree-number-requires : goal.tell_tree-number-requires
tell_tree-number-requires c = omega (arith, c.requires)

pub bounds-values-20 : goal.bounds-values-20
bounds-values-20 c = omega (arith, c.requires, c.tell_tree-number.auto.values)

pub bounds-values-21 : goal.bounds-values-21
bounds-values-21 c = rw length-set (omega (arith, c.requires, c.tell_tree-number.auto.values))

pub returns-then-touches-clause-value : goal.returns-then-touches-clause-value
returns-then-touches-clause-value c = rw c.answer_in.ensures at c.tell_tree-number.ensures.value

pub returns-then-touches-clause-values_after : goal.returns-then-touches-clause-values_after
returns-then-touches-clause-values_after c = let a = c.args in rw (c.told_in-told.ensures.place, c.told_in-told.ensures.verdict) (written_behind (answer_in c.args.why) _ (place_in c.args.why) (verdict_in c.args.why) (rw c.answer_in.ensures at c.tell_tree-number.ensures.value) a.values.now (rw c.answer_in.ensures at c.tell_tree-number.ensures.values_after) (sym c.touches.ensures ∙ c.if-touches.true))

pub returns-else-touches-clause-value : goal.returns-else-touches-clause-value
returns-else-touches-clause-value c = rw c.answer_in.ensures at c.tell_tree-number.ensures.value

pub returns-else-touches-clause-values_after : goal.returns-else-touches-clause-values_after
returns-else-touches-clause-values_after c = let a = c.args in kept-untouched (answer_in c.args.why) _ (place_in c.args.why) (verdict_in c.args.why) (rw c.answer_in.ensures at c.tell_tree-number.ensures.value) a.values.now (rw c.answer_in.ensures at c.tell_tree-number.ensures.values_after) (sym c.touches.ensures ∙ c.if-touches.false)
