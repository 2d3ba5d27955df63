-- A tree has a branch for each sink of its sheet: at most 16.
use Rattle.std.proofs.Common.{ap, arith}
use Rattle.std.specs.Prelude.{List, ℕ, ◌≤◌, length}
use Rattle.ground.specs.declared.Mode.{Mode}
use Rattle.job_sheet.specs.Sheet.{max_sinks}
use Rattle.multinet.specs.GrowthLaws.{growth-count}
use Rattle.net_tree.specs.declared.Lengths.{Lengths}
use Rattle.net_tree.specs.Answers.{routed, plot_for, Comes}
use Rattle.net_tree.specs.SheetTreeLaws.{tree_of}

pub few-branches : {mode : Mode} {sheet : List ℕ} {L : Lengths} {bs : List (List ℕ)} {occupied repeaters : List ℕ} → Comes mode sheet L (routed bs occupied repeaters) → length bs ≤ max_sinks
few-branches {mode = mode} {L = L} c =
    let T = tree_of c in
    let n = growth-count (plot_for mode T.contents L T.outset T.kinds) T.blocked T.tree T.grows in
    omega (arith, ap length T.branches-are, n, T.sound.net.taps_in_lem.few)
