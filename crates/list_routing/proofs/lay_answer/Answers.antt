use Rattle.list_routing.specs.Parts.{laid_one, laid_none, further-by}
use native.Mathlib.Omega.{arith}
use mathlib.Core.Path.{◌≡◌, refl}
use Rattle.list_routing.proofs.lay_answer.Goals as goal
-- `lay_answer` meets its contract: a tree is laid, and a refusal told.

use Rattle.branches.specs.Branches.{sum, lengths_in}

pub returns-in-Err : goal.returns-in-Err
returns-in-Err c = laid_none _ c.in-Err.is refl

pub lay_sheet-met-requires : goal.lay_sheet-met-requires
lay_sheet-met-requires c = (c.requires.tree _ c.in-Ok.is).layable

pub overflow_add-result : goal.overflow_add-result
overflow_add-result c = let h = (c.requires.tree _ c.in-Ok.is).counted in omega (arith, c.well_formed)

pub joined_length-requires-clause-short : goal.joined_length-requires-clause-short
joined_length-requires-clause-short c = let T = c.requires.tree _ c.in-Ok.is in T.short

pub joined_length-requires-clause-k_le_max_sinks : goal.joined_length-requires-clause-k_le_max_sinks
joined_length-requires-clause-k_le_max_sinks c = let T = c.requires.tree _ c.in-Ok.is in T.few

pub overflow_add-result-2 : goal.overflow_add-result-2
overflow_add-result-2 c =
    let T = c.requires.tree _ c.in-Ok.is in
    let n : c.joined_length.result ≡ sum (lengths_in c.in-Ok.tree.lengths) = c.joined_length.ensures in
    let h = T.fits in omega (arith, c.well_formed)

pub returns : goal.returns
returns c = laid_one _ c.in-Ok.is _ (further-by c.args.stand c.args.end c.in-Ok.tree.lengths _ c.joined_length.ensures) c.lay_sheet-met.ensures
