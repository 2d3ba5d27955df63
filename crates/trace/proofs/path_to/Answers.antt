-- `path_to` meets its contract: as many cells as are counted are written, and the path is long enough for them.
use native.Mathlib.Omega.{arith}
use mathlib.Core.List.{[]}
use lib.ListN.{length}
use Rattle.trace.specs.TraceLaws.{trace-short}
use Rattle.trace.proofs.path_to.Goals as goal

pub trace_into-requires-clause-to_in_bounds : goal.trace_into-requires-clause-to_in_bounds
trace_into-requires-clause-to_in_bounds c =
    let counted = c.trace_length-count.ensures in
    let args = c.args in
    c.requires.to_in_bounds

pub trace_into-requires-clause-previous_inside : goal.trace_into-requires-clause-previous_inside
trace_into-requires-clause-previous_inside c =
    let counted = c.trace_length-count.ensures in
    let args = c.args in
    c.requires.previous_inside

pub trace_into-requires-clause-previous_len_bound : goal.trace_into-requires-clause-previous_len_bound
trace_into-requires-clause-previous_len_bound c =
    let counted = c.trace_length-count.ensures in
    let args = c.args in
    c.requires.previous_len_bound

pub trace_into-requires-clause-count_value : goal.trace_into-requires-clause-count_value
trace_into-requires-clause-count_value c =
    let counted = c.trace_length-count.ensures in
    let args = c.args in
    counted

pub trace_into-requires-clause-count_in_bounds : goal.trace_into-requires-clause-count_in_bounds
trace_into-requires-clause-count_in_bounds c =
    let counted = c.trace_length-count.ensures in
    let args = c.args in
    omega (arith, counted, trace-short (length args.previous.now) args.previous.now args.to [], c.requires.previous_in_bounds)
