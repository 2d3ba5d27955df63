-- `open_both` meets its contract, whether or not a cell is above.
use native.Mathlib.Omega.{arith}
use lib.ListN.{length-set}
use Rattle.room.specs.RoomLaws.{above_in}
use mathlib.Core.Path.{sym, ◌∙◌}
use Rattle.relaxed.specs.OpeningLaws.{opens-alone, opens-both}
use Rattle.relaxed.proofs.opening.open_both.Goals as goal

pub bounds-classes-over : goal.bounds-classes-over
bounds-classes-over c =
    let inside = above_in _ c.requires.good _ _ c.requires.cell_bound (sym c.above.ensures ∙ c.in-Some.is) in
    rw (length-set c.args.classes.now c.args.cell 1) (omega (arith, inside, c.requires.classes_len))

pub returns-in-Some : goal.returns-in-Some
returns-in-Some c =
    let leads = sym c.above.ensures ∙ c.in-Some.is in
    let inside = above_in _ c.requires.good _ _ c.requires.cell_bound leads in
    opens-both _ _ _ (omega (arith, c.requires.classes_len, c.requires.cell_bound)) _ leads (omega (arith, inside, c.requires.classes_len))

pub returns-in_default : goal.returns-in_default
returns-in_default c =
    opens-alone _ _ _ (omega (arith, c.requires.classes_len, c.requires.cell_bound)) (sym c.above.ensures ∙ c.in_default.is)
