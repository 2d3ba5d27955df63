-- `blocks_known` meets its contract: whether all are known is whether those from the cell on are.
use mathlib.Core.Path.{◌≡◌}
use lib.ListN.{drop}
use Rattle.function_file.specs.Written.{known_from}
use Rattle.function_file.proofs.writing.blocks_known.Given as goal

abbrev pub invariant-loop-cell : goal.invariant-loop-cell
invariant-loop-cell l = known_from l.cell (drop l.cell l.kinds) l.facings ≡ known_from 0 l.kinds l.facings
