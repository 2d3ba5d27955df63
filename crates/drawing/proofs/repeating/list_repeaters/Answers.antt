-- `list_repeaters` meets its contract: each round passes one place of the path.
use native.Mathlib.Omega.{arith}
use mathlib.Core.Path.{refl, sym, ◌∙◌}
use Rattle.drawing.specs.ListingLaws.{listed-first, listed_skip, listed-put, listed-end}
use Rattle.drawing.proofs.repeating.list_repeaters.Goals as goal

pub loop-i-init : goal.loop-i-init
loop-i-init c = listed-first c.requires.cells_value c.requires.facings_value

pub due_facing-requires-clause-good : goal.due_facing-requires-clause-good
due_facing-requires-clause-good c =
    let pre = c.requires.listable.drawable in pre.good

pub due_facing-requires-clause-all_cells : goal.due_facing-requires-clause-all_cells
due_facing-requires-clause-all_cells c =
    let pre = c.requires.listable.drawable in pre.path_in

pub due_facing-requires-clause-i_nonzero : goal.due_facing-requires-clause-i_nonzero
due_facing-requires-clause-i_nonzero c =
    let pre = c.requires.listable.drawable in omega (arith, c.loop-i.invariant.few)

pub due_facing-requires-clause-i_in_bounds : goal.due_facing-requires-clause-i_in_bounds
due_facing-requires-clause-i_in_bounds c =
    omega arith

pub loop-i-preserved-in_default : goal.loop-i-preserved-in_default
loop-i-preserved-in_default c = listed_skip c.loop-i.invariant (omega arith) (sym c.in_default.is ∙ c.due_facing.ensures)

pub bounds-kinds-as_index : goal.bounds-kinds-as_index
bounds-kinds-as_index c =
    let pre = c.requires.listable.drawable in
    let i = c.loop-i.i in
    rw (c.as_index.ensures.0, c.loop-i.invariant.kinds-long, pre.kinds-long) (pre.path_in.below i (omega arith))

pub bounds-cells-listed : goal.bounds-cells-listed
bounds-cells-listed c = omega (arith, c.loop-i.invariant.few, c.loop-i.invariant.cells-long, c.requires.listable.cells-enough)

pub bounds-facings-listed : goal.bounds-facings-listed
bounds-facings-listed c = omega (arith, c.loop-i.invariant.few, c.loop-i.invariant.facings-long, c.requires.listable.facings-enough)

pub loop-i-preserved : goal.loop-i-preserved
loop-i-preserved c = listed-put c.loop-i.invariant (omega arith) c.in-Some.ensures c.requires.listable.cells-enough c.requires.listable.facings-enough refl c.as_index.ensures.0

pub returns : goal.returns
returns c = listed-end c.loop-i.invariant (omega arith)
