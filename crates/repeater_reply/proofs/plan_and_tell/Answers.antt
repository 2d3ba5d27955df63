-- `plan_and_tell` meets its contract: what the numbers tell is handed on, and its answer told.
use mathlib.Core.Path.{sym, ap, ◌∙◌}
use lib.ListN.{length}
use lib.Seq.{length-take-le}
use Rattle.basics.specs.Tests.{either}
use Rattle.repeater_plan.specs.Plan.{lent}
use Rattle.repeater_reply.specs.Reply.{net_told, well_told}
use Rattle.repeater_reply.specs.ReplyLaws.{marks-inside, values-enough, told_promise, answer-fits, plan_told}
use Rattle.repeater_reply.proofs.plan_and_tell.Goals as goal

pub slice_bounds-plan_net-end : goal.slice_bounds-plan_net-end
slice_bounds-plan_net-end c = marks-inside c.well_told-well.result c.args.repeaters.now c.lent_marks-marks.ensures

pub slice_bounds-plan_net-end-2 : goal.slice_bounds-plan_net-end-2
slice_bounds-plan_net-end-2 c = sym (length-take-le _ _ (marks-inside c.well_told-well.result c.args.repeaters.now c.lent_marks-marks.ensures))

pub tell-requires : goal.tell-requires
tell-requires c = answer-fits (net_told c.args.wide c.args.high c.args.deep c.args.run c.args.source.now c.args.sinks.now c.args.branches.now c.args.lengths.now) (well_told (length c.args.source.now) (length c.args.sinks.now) (length c.args.values.now)) (lent c.args.repeaters.now c.args.classes.now c.args.known.now c.args.previous.now c.args.path.now) (told_promise _ _ (well_told (length c.args.source.now) (length c.args.sinks.now) (length c.args.values.now)) (lent c.args.repeaters.now c.args.classes.now c.args.known.now c.args.previous.now c.args.path.now) c.args.source.now c.args.sinks.now c.args.lengths.now c.as_index.ensures.0 c.source_told.ensures c.sinks_told.ensures c.lengths_told.ensures (c.lent_marks-marks.ensures ∙ ap (λ w. either w (length c.args.repeaters.now) 0) c.well_told-well.ensures) c.plan_net-answer.ensures) c.args.values.now (λ t. values-enough (length c.args.source.now) (length c.args.sinks.now) (length c.args.values.now) t)

pub returns : goal.returns
returns c = plan_told (net_told c.args.wide c.args.high c.args.deep c.args.run c.args.source.now c.args.sinks.now c.args.branches.now c.args.lengths.now) (well_told (length c.args.source.now) (length c.args.sinks.now) (length c.args.values.now)) (lent c.args.repeaters.now c.args.classes.now c.args.known.now c.args.previous.now c.args.path.now) (told_promise _ _ (well_told (length c.args.source.now) (length c.args.sinks.now) (length c.args.values.now)) (lent c.args.repeaters.now c.args.classes.now c.args.known.now c.args.previous.now c.args.path.now) c.args.source.now c.args.sinks.now c.args.lengths.now c.as_index.ensures.0 c.source_told.ensures c.sinks_told.ensures c.lengths_told.ensures (c.lent_marks-marks.ensures ∙ ap (λ w. either w (length c.args.repeaters.now) 0) c.well_told-well.ensures) c.plan_net-answer.ensures) c.tell.ensures.value c.tell.ensures.values_after (c.lent_marks-marks.ensures ∙ ap (λ w. either w (length c.args.repeaters.now) 0) c.well_told-well.ensures)
