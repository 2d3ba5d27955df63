-- `path_inside` meets its contract: the chain's test of each cell is the definition's.
use Rattle.std.proofs.Common.{rules, ◌∙◌, ap, ltb}
use Rattle.std.proofs.Common.{tests}
use Rattle.std.proofs.lemmas.Iterator.{YieldsList-from_slice}
use Rattle.std.proofs.lemmas.Iterator.Search.{all_from_yields_List}
use Rattle.basics.specs.Lists.{every}
use Rattle.drawing.proofs.judge.path_inside.Goals as goal

pub returns : goal.returns
returns c =
    all_from_yields_List (λ cell. ltb cell c.volume-cells.result) _ _ c.all.result c.all.ensures.ran (YieldsList-from_slice c.args.path.now cc) (λ x b q k. search (rules, tests))
    ∙ ap (λ v. every (λ cell. ltb cell v) c.args.path.now) c.volume-cells.ensures
