-- `tell_read` meets its contract: lines and 19 write their values, and 2 and 6 none.
use mathlib.Core.Path.{sym, ◌∙◌}
use Rattle.function_file.specs.ReadToldLaws.{lines_told, lines_kept}
use Rattle.function_file.proofs.told.tell_read.Goals as goal

pub returns-then-touches-clause-value : goal.returns-then-touches-clause-value
returns-then-touches-clause-value c =
    let a = c.args in
    let number = c.read_number-number.ensures in number

pub returns-then-touches-clause-values_after : goal.returns-then-touches-clause-values_after
returns-then-touches-clause-values_after c =
    let a = c.args in
    let number = c.read_number-number.ensures in lines_told a.answer a.values.now number (sym c.touches.ensures ∙ c.if-touches.true) c.read_detail-detail.ensures c.lines_read-lines.ensures c.write_two.ensures

pub returns-else-touches-clause-value : goal.returns-else-touches-clause-value
returns-else-touches-clause-value c =
    let a = c.args in
    let number = c.read_number-number.ensures in number

pub returns-else-touches-clause-values_after : goal.returns-else-touches-clause-values_after
returns-else-touches-clause-values_after c =
    let a = c.args in
    let number = c.read_number-number.ensures in lines_kept a.answer a.values.now number (sym c.touches.ensures ∙ c.if-touches.false)
