-- `rotate` meets its contract: a part reversed, the other reversed, and the whole reversed put the second part first.
use mathlib.Core.Path.{refl, sym}
use lib.Seq.{length-take-le}
use Rattle.branches.specs.WriteLaws.{rotated}
use Rattle.branches.proofs.rotate.Goals as goal

pub slice_bounds-reverse-end-2 : goal.slice_bounds-reverse-end-2
slice_bounds-reverse-end-2 c = sym (length-take-le _ _ c.requires)

pub returns : goal.returns
returns c =
    let args = c.args in
    rotated args.cells.now args.mid c.requires c.reverse.new.self c.reverse-2.new.self c.reverse-3.new.self _ _ c.reverse.ensures.after refl c.reverse-2.ensures.after refl c.reverse-3.ensures.after
