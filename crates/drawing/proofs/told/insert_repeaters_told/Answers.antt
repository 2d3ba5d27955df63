-- `insert_repeaters_told` keeps its promise: too few values, or the answer of `insert_repeaters`, told.
use Rattle.drawing.specs.ListToldLaws.{list-short, list-told}
use Rattle.drawing.proofs.told.insert_repeaters_told.Goals as goal

pub returns-then-values-lt-LIST_VALUES : goal.returns-then-values-lt-LIST_VALUES
returns-then-values-lt-LIST_VALUES c = list-short _ _ _ _ _ _ _ c.if-values-lt-LIST_VALUES.true c.short_number.ensures

pub returns : goal.returns
returns c = list-told _ _ _ _ _ _ _ c.if-values-lt-LIST_VALUES.false c.insert_repeaters-listed.ensures c.tell_listed.ensures.value c.tell_listed.ensures.values_after
