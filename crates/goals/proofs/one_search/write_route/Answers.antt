-- `write_route` meets its contract: the path is written, and the goal's known cost told.
use native.Mathlib.Omega.{arith}
use native.Mathlib.Numerals.{sub-one}
use mathlib.Core.List.{[]}
use lib.ListN.{length, get_or}
use Rattle.trace.specs.TraceLaws.{trace-short}
use Rattle.goals.specs.SearchForLaws.{tells-route}
use Rattle.goals.proofs.one_search.write_route.Goals as goal

pub path_to-length-requires-clause-to_in_bounds : goal.path_to-length-requires-clause-to_in_bounds
path_to-length-requires-clause-to_in_bounds c = omega arith

pub path_to-length-requires-clause-previous_inside : goal.path_to-length-requires-clause-previous_inside
path_to-length-requires-clause-previous_inside c = c.requires.previous_inside

pub path_to-length-requires-clause-previous_len_bound : goal.path_to-length-requires-clause-previous_len_bound
path_to-length-requires-clause-previous_len_bound c = omega arith

pub path_to-length-requires-clause-previous_in_bounds : goal.path_to-length-requires-clause-previous_in_bounds
path_to-length-requires-clause-previous_in_bounds c = omega arith

pub returns : goal.returns
returns c =
    let args = c.args in
    let call = c.path_to-length in
    tells-route _ _ args.path.now _ _ call.ensures.value (omega (arith, call.ensures.value, trace-short (length args.previous.now) args.previous.now args.goal [])) (sub-one (get_or args.known.now args.goal 0)) call.ensures.path_after
