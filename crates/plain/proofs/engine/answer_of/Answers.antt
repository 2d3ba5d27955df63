-- `answer_of` meets its contract: the path is written and the goal's known cost told, or the known cells are counted.
use mathlib.Core.Path.{refl}
use native.Mathlib.Omega.{arith}
use Rattle.plain.specs.PromiseLaws.{told_none, told-route}
use Rattle.plain.proofs.engine.answer_of.Goals as goal

pub returns-then-noted-eq0 : goal.returns-then-noted-eq0
returns-then-noted-eq0 c = told_none c.requires.path_value c.if-noted-eq0.true _ c.count_known.ensures

pub path_to-length-requires-clause-to_in_bounds : goal.path_to-length-requires-clause-to_in_bounds
path_to-length-requires-clause-to_in_bounds c = c.requires.goal_in_bounds.0

pub path_to-length-requires-clause-previous_inside : goal.path_to-length-requires-clause-previous_inside
path_to-length-requires-clause-previous_inside c = c.requires.previous_inside

pub path_to-length-requires-clause-previous_len_bound : goal.path_to-length-requires-clause-previous_len_bound
path_to-length-requires-clause-previous_len_bound c = omega (arith, c.requires.goal_in_bounds.1)

pub path_to-length-requires-clause-previous_in_bounds : goal.path_to-length-requires-clause-previous_in_bounds
path_to-length-requires-clause-previous_in_bounds c = c.requires.goal_in_bounds.3

pub returns : goal.returns
returns c = let P = c.path_to-length.ensures in told-route c.requires.path_value c.if-noted-eq0.false _ _ P.value refl P.path_after
