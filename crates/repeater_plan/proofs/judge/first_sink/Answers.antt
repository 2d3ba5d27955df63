-- `first_sink` meets its contract: the fault so far and the sinks that are left come to that of all.
use Rattle.std.proofs.Common.{ap, ◌∙◌, sym, ◌∷◌, map}
use Rattle.job_sheet.specs.Sheet.{no_sink, first_fault, sink_fault}
use Rattle.repeater_plan.specs.JudgeLaws.{held_take, scan_first, scan_stop, scan_next, scan_done}
use Rattle.repeater_plan.proofs.judge.first_sink.Goals as goal

pub loop-sink-init : goal.loop-sink-init
loop-sink-init c = scan_first _ _ _

pub returns-then-not-is_good : goal.returns-then-not-is_good
returns-then-not-is_good c = scan_stop _ _ _ c.loop-sink.invariant (sym c.is_good.ensures ∙ c.if-not-is_good.true) ∙ ap (λ l. first_fault (c.args.found ∷ map (sink_fault c.args.room) l)) (held_take _ c.args.sinks.ends c.requires c.held-count.ensures.0)

pub loop-sink-preserved : goal.loop-sink-preserved
loop-sink-preserved c = scan_next _ _ _ c.loop-sink.invariant (sym c.is_good.ensures ∙ c.if-not-is_good.false) no_sink c.loop-sink-test.true _ c.sink_fault-fault.ensures

pub returns : goal.returns
returns c = scan_done _ _ _ c.loop-sink.invariant c.loop-sink-test.false ∙ ap (λ l. first_fault (c.args.found ∷ map (sink_fault c.args.room) l)) (held_take _ c.args.sinks.ends c.requires c.held-count.ensures.0)
