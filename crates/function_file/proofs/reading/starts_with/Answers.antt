-- `starts_with` meets its contract: the library's test is the definition's.
use Rattle.std.proofs.Common.{◌∙◌, ◌-◌, ◌≤◌, ap, arith, drop, length, length-drop}
use Rattle.std.proofs.lemmas.List.{take_all}
use Rattle.function_file.specs.Guessing.{starts_with}
use Rattle.function_file.specs.GuessLaws.{starts-library}
use Rattle.function_file.proofs.reading.starts_with.Goals as goal

pub returns : goal.returns
returns c =
    let left : length (drop c.args.at c.args.text.now) ≤ length c.args.text.now - c.args.at = omega (arith, length-drop c.args.at c.args.text.now) in
    c.starts_with.ensures.value ∙ starts-library c.args.line.now _ ∙ ap (starts_with c.args.line.now) (take_all _ _ left)
