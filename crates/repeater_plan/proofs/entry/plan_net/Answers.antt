-- `plan_net` keeps its promise: refused by what is judged, by number 6, or planned.
use mathlib.Core.Path.{ap, ◌∙◌, sym}
use Rattle.job_sheet.specs.Sheet.{is_good, number_of}
use Rattle.repeater_plan.specs.Plan.{counts_good, unplanned, answer_of}
use Rattle.repeater_plan.specs.EntryLaws.{no_fault, sink-list, lendable, judged-bad, counts-bad, lent-bad, all-good}
use Rattle.repeater_plan.proofs.entry.plan_net.Goals as goal

pub judge-judgement-requires : goal.judge-judgement-requires
judge-judgement-requires c = (c.well_formed.1.1.1.0.1.1.1.0.1.0.1, c.well_formed.1.1.1.1.1.0.1.1.1.0.1.0.1)

pub returns-then-not-is_good : goal.returns-then-not-is_good
returns-then-not-is_good c = judged-bad _ _ (sym (c.is_good.ensures ∙ ap is_good c.judge-judgement.ensures) ∙ c.if-not-is_good.true) (c.refuse.ensures ∙ ap (λ n. answer_of (unplanned n 0)) (c.number.ensures ∙ ap number_of c.judge-judgement.ensures))

pub counts_good-requires : goal.counts_good-requires
counts_good-requires c = c.well_formed.1.1.1.1.1.0.1.1.1.0.1.0.1

pub returns-then-not-counts_good : goal.returns-then-not-counts_good
unfolding counts_good
returns-then-not-counts_good c = counts-bad _ _ (sym (c.is_good.ensures ∙ ap is_good c.judge-judgement.ensures) ∙ c.if-not-is_good.false) (sym c.counts_good.ensures ∙ c.if-not-counts_good.true) c.refuse-then-not-counts_good.ensures

pub lent_good-requires : goal.lent_good-requires
lent_good-requires c = (no_fault _ (sym (c.is_good.ensures ∙ ap is_good c.judge-judgement.ensures) ∙ c.if-not-is_good.false)).room-good

pub returns-then-not-lent_good : goal.returns-then-not-lent_good
unfolding counts_good
returns-then-not-lent_good c = lent-bad _ _ (sym (c.is_good.ensures ∙ ap is_good c.judge-judgement.ensures) ∙ c.if-not-is_good.false) (sym c.counts_good.ensures ∙ c.if-not-counts_good.false) (sym c.lent_good.ensures ∙ c.if-not-lent_good.true) c.refuse-then-not-lent_good.ensures

pub realize_ends-ends-requires-clause-good : goal.realize_ends-ends-requires-clause-good
unfolding counts_good
realize_ends-ends-requires-clause-good c = (no_fault _ (sym (c.is_good.ensures ∙ ap is_good c.judge-judgement.ensures) ∙ c.if-not-is_good.false)).room-good

pub realize_ends-ends-requires-clause-within : goal.realize_ends-ends-requires-clause-within
unfolding counts_good
realize_ends-ends-requires-clause-within c = (no_fault _ (sym (c.is_good.ensures ∙ ap is_good c.judge-judgement.ensures) ∙ c.if-not-is_good.false)).source-within

pub realize_ends-ends-requires-clause-sink_list : goal.realize_ends-ends-requires-clause-sink_list
unfolding counts_good
realize_ends-ends-requires-clause-sink_list c = sink-list _ c.well_formed.1.1.1.0.1.1.1.0.1.0.1 c.well_formed.1.1.1.1.1.0.1.1.1.0.1.0.1 (sym (c.is_good.ensures ∙ ap is_good c.judge-judgement.ensures) ∙ c.if-not-is_good.false) (sym c.counts_good.ensures ∙ c.if-not-counts_good.false)

pub plan_lent-requires : goal.plan_lent-requires
unfolding counts_good
plan_lent-requires c = lendable _ c.well_formed.1.1.1.0.1.1.1.0.1.0.1 c.well_formed.1.1.1.1.1.0.1.1.1.0.1.0.1 (sym (c.is_good.ensures ∙ ap is_good c.judge-judgement.ensures) ∙ c.if-not-is_good.false) (sym c.counts_good.ensures ∙ c.if-not-counts_good.false) (sym c.lent_good.ensures ∙ c.if-not-lent_good.false) c.realize_ends-ends.ensures

pub returns : goal.returns
unfolding counts_good
returns c = all-good _ _ (sym (c.is_good.ensures ∙ ap is_good c.judge-judgement.ensures) ∙ c.if-not-is_good.false) (sym c.counts_good.ensures ∙ c.if-not-counts_good.false) (sym c.lent_good.ensures ∙ c.if-not-lent_good.false) c.realize_ends-ends.ensures c.plan_lent.ensures
