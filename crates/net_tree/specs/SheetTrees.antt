-- What grew from a sheet: where, and either the tree whose branches, occupied cells and repeaters are given out, or the number at which the growth
-- stopped. Definitions alone; that there is one is in SheetTreeLaws.
use Rattle.std.specs.Prelude.{◌≡◌, true, List, ℕ}
use Rattle.ground.specs.declared.Mode.{Mode}
use Rattle.job_sheet.specs.declared.Judgement.TheVariants.{Good}
use Rattle.job_sheet.specs.Version.{version_in}
use Rattle.job_sheet.specs.Sheet.{Contents, Means, judged}
use Rattle.outset.specs.SetOut.{Outset}
use Rattle.outset.specs.SetOut.{ready, OutsetOf}
use Rattle.multinet.specs.Tree.{Tree, grown, stopped, growth_of, repeaters_of}
use Rattle.multinet.specs.Growing.{SoundPlot}
use Rattle.net_tree.specs.declared.Lengths.{Lengths}
use Rattle.net_tree.specs.Answers.{buffers_good, plot_for}

-- no number from 1 to 9 is due: the sheet has these contents, they are good, the lent buffers are long enough, and the contents are set out so
pub record TreeUnrefused (sheet : List ℕ) (L : Lengths) (J : Contents) (O : Outset) (kinds nodes blocked : List ℕ) : Type 0 where
  pub means : Means sheet J
  pub contents-good : judged (version_in sheet) J ≡ Good
  pub lengths-good : buffers_good J.room L ≡ true
  pub is_set : OutsetOf J O kinds nodes blocked
  pub is-ready : ready O ≡ true

-- the tree that grew has these branches in sheet order, these occupied cells and these repeaters
pub record TreeOf (mode : Mode) (sheet : List ℕ) (L : Lengths) (branches : List (List ℕ)) (occupied repeaters : List ℕ) : Type 0 where
  pub contents : Contents
  pub outset : Outset
  pub kinds : List ℕ
  pub nodes : List ℕ
  pub blocked : List ℕ
  pub unrefused : TreeUnrefused sheet L contents outset kinds nodes blocked
  pub sound : SoundPlot (plot_for mode contents L outset kinds)
  pub tree : Tree
  pub grows : growth_of (plot_for mode contents L outset kinds) blocked ≡ grown tree
  pub branches-are : branches ≡ tree.branches
  pub occupied-are : occupied ≡ tree.occupied
  pub repeaters-are : repeaters ≡ repeaters_of (plot_for mode contents L outset kinds) tree

-- the growth stopped with this number and detail
pub record StopOf (mode : Mode) (sheet : List ℕ) (L : Lengths) (number detail : ℕ) : Type 0 where
  pub contents : Contents
  pub outset : Outset
  pub kinds : List ℕ
  pub nodes : List ℕ
  pub blocked : List ℕ
  pub unrefused : TreeUnrefused sheet L contents outset kinds nodes blocked
  pub sound : SoundPlot (plot_for mode contents L outset kinds)
  pub stops : growth_of (plot_for mode contents L outset kinds) blocked ≡ stopped number detail
