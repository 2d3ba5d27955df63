-- `tell_refusal` meets its contract: a number that touches nothing writes nothing.
use mathlib.Core.Path.{refl, sym, ◌∙◌}
use mathlib.Core.List.{[], ◌∷◌}
use Rattle.repeater_reply.specs.ReplyLaws.{refusal-written, refusal-kept}
use Rattle.repeater_reply.proofs.tell_refusal.Goals as goal

pub write_two-requires : goal.write_two-requires
write_two-requires c = c.requires (sym c.touches.ensures ∙ c.if-touches.true)

pub returns-then-touches-clause-value : goal.returns-then-touches-clause-value
returns-then-touches-clause-value c = refl

pub returns-then-touches-clause-values_after : goal.returns-then-touches-clause-values_after
returns-then-touches-clause-values_after c = refusal-written c.args.refused.number (c.args.refused.detail ∷ 0 ∷ []) c.args.values.now c.touches.ensures c.if-touches.true c.write_two.ensures

pub returns-else-touches-clause-value : goal.returns-else-touches-clause-value
returns-else-touches-clause-value c = refl

pub returns-else-touches-clause-values_after : goal.returns-else-touches-clause-values_after
returns-else-touches-clause-values_after c = refusal-kept c.args.refused.number (c.args.refused.detail ∷ 0 ∷ []) c.args.values.now c.touches.ensures c.if-touches.false
