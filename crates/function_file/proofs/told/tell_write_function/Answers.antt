-- `tell_write_function` keeps its promise: too few values, or the answer of `write_function`, told.
use mathlib.Core.Path.{refl}
use Rattle.function_file.specs.WriteTold.{few_to_write, write_told}
use Rattle.function_file.proofs.told.tell_write_function.Goals as goal

pub returns-then-values-lt-VALUES : goal.returns-then-values-lt-VALUES
returns-then-values-lt-VALUES c = few_to_write c.if-values-lt-VALUES.true c.few_number.ensures refl refl

pub returns : goal.returns
returns c =
    write_told c.if-values-lt-VALUES.false _ c.write_function-answer.ensures c.tell_written.ensures.value c.tell_written.ensures.values_after
