-- `tell_written` meets its contract: a text and 18 write their values, and 2, 6 and 5 none.
use mathlib.Core.Path.{sym, ◌∙◌}
use Rattle.function_file.specs.WriteToldLaws.{written-told, written-kept}
use Rattle.function_file.proofs.told.tell_written.Goals as goal

pub returns-then-touches-clause-value : goal.returns-then-touches-clause-value
returns-then-touches-clause-value c =
    let a = c.args in
    let number = c.written_number-number.ensures in number

pub returns-then-touches-clause-values_after : goal.returns-then-touches-clause-values_after
returns-then-touches-clause-values_after c =
    let a = c.args in
    let number = c.written_number-number.ensures in written-told a.answer a.values.now number (sym c.touches.ensures ∙ c.if-touches.true) c.bytes_written-length.ensures c.write_two.ensures

pub returns-else-touches-clause-value : goal.returns-else-touches-clause-value
returns-else-touches-clause-value c =
    let a = c.args in
    let number = c.written_number-number.ensures in number

pub returns-else-touches-clause-values_after : goal.returns-else-touches-clause-values_after
returns-else-touches-clause-values_after c =
    let a = c.args in
    let number = c.written_number-number.ensures in written-kept a.answer a.values.now number (sym c.touches.ensures ∙ c.if-touches.false)
