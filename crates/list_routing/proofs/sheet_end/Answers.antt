-- `sheet_end` meets its contract.
use Rattle.job_list.specs.JudgeLaws.{ends_at}
use Rattle.job_list.specs.SplitLaws.{long-most}
use lib.ListN.{drop, length-drop}
use native.Mathlib.Omega.{arith}
use Rattle.list_routing.proofs.sheet_end.Goals as goal

pub overflow_add-result : goal.overflow_add-result
overflow_add-result c = let e = ends_at c.args.list.now c.args.place c.requires c.sheet_size.ensures in omega (arith, long-most (drop c.args.place c.args.list.now), length-drop c.args.place c.args.list.now)

pub returns : goal.returns
returns c = ends_at c.args.list.now c.args.place c.requires c.sheet_size.ensures
