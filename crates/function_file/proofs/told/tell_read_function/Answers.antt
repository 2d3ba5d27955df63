-- `tell_read_function` keeps its promise: too few values, or the answer of `read_function`, told.
use mathlib.Core.Path.{refl}
use Rattle.function_file.specs.ReadTold.{few-to-read, read_told}
use Rattle.function_file.proofs.told.tell_read_function.Goals as goal

pub returns-then-values-lt-VALUES : goal.returns-then-values-lt-VALUES
returns-then-values-lt-VALUES c = few-to-read c.if-values-lt-VALUES.true c.few_number.ensures refl refl refl

pub returns : goal.returns
returns c =
    read_told c.if-values-lt-VALUES.false _ c.read_function-answer.ensures c.tell_read.ensures.value c.tell_read.ensures.values_after
