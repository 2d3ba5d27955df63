-- `dustroute_plain` keeps its promise: too few values, or the answer of the plain engine, told.
use mathlib.Core.Path.{refl, ap, ◌∙◌}
use Rattle.routing.specs.Answers.{refusal_number}
use Rattle.exports.specs.PlainExport.{plain-short, plain-told}
use borrow.Author.Rules.{rules}
use Rattle.dustroute.proofs.plain_export.dustroute_plain.Goals as goal

pub returns-then-values-lt-PLAIN_VALUES : goal.returns-then-values-lt-PLAIN_VALUES
returns-then-values-lt-PLAIN_VALUES c = plain-short c.if-values-lt-PLAIN_VALUES.true (c.refusal_number.ensures ∙ ap refusal_number c.short_refusal.ensures) refl refl refl refl refl

pub returns : goal.returns
returns c =
    plain-told c.if-values-lt-PLAIN_VALUES.false _ c.plain_route-answer.ensures c.tell_plain.ensures.value c.tell_plain.ensures.values_after
