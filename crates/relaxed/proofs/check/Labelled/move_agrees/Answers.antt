-- `Labelled::move_agrees` meets its contract: the move leads out of the room, to a cell that is not open, or to one whose label is compared.
use Rattle.std.proofs.Common.{sym, ◌∙◌, arith}
use Rattle.relaxed.specs.CheckLaws.{leads-inside}
use Rattle.relaxed.proofs.check.Labelled.move_agrees.Goals as goal

pub bounds-self-cell : goal.bounds-self-cell
bounds-self-cell c = omega (arith, leads-inside _ _ _ c.requires.within (sym c.neighbour_at.ensures ∙ c.in-Some.is), c.args.self.now.fits.bytes-long)

pub offset_bounds-self-cell : goal.offset_bounds-self-cell
offset_bounds-self-cell c =
    record { fits = omega (arith, leads-inside _ _ _ c.requires.within (sym c.neighbour_at.ensures ∙ c.in-Some.is), c.args.self.now.fits.good.few) }

pub bounds-self-cell-2 : goal.bounds-self-cell-2
bounds-self-cell-2 c = omega (arith, leads-inside _ _ _ c.requires.within (sym c.neighbour_at.ensures ∙ c.in-Some.is), c.args.self.now.fits.labels_long)
