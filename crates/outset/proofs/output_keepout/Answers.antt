-- `output_keepout` meets its contract: there is an output cell and it is Solid and of the node, or nothing is marked.
use mathlib.Core.Path.{sym, ◌∙◌}
use Rattle.outset.specs.OutsetLaws.{output_solid, output_other, output_none}
use Rattle.outset.proofs.output_keepout.Goals as goal

pub solid_of-requires : goal.solid_of-requires
solid_of-requires c =
    let pre = c.requires in
    (rw pre.sized.kinds-long (pre.output_in _ c.in-Some.is), rw pre.sized.nodes-long (pre.output_in _ c.in-Some.is))

pub electrical_keepout_for_wire-requires-clause-good : goal.electrical_keepout_for_wire-requires-clause-good
electrical_keepout_for_wire-requires-clause-good c =
    let pre = c.requires in pre.sized.good

pub electrical_keepout_for_wire-requires-clause-cell_bound : goal.electrical_keepout_for_wire-requires-clause-cell_bound
electrical_keepout_for_wire-requires-clause-cell_bound c =
    let pre = c.requires in pre.output_in _ c.in-Some.is

pub electrical_keepout_for_wire-requires-clause-marks_len : goal.electrical_keepout_for_wire-requires-clause-marks_len
electrical_keepout_for_wire-requires-clause-marks_len c =
    let pre = c.requires in pre.sized.long

pub returns-then-solid_of : goal.returns-then-solid_of
returns-then-solid_of c = output_solid _ _ _ _ _ c.in-Some.is (sym c.solid_of.ensures ∙ c.if-solid_of.true) c.electrical_keepout_for_wire.ensures

pub returns-else-solid_of : goal.returns-else-solid_of
returns-else-solid_of c = output_other _ _ _ _ _ c.in-Some.is (sym c.solid_of.ensures ∙ c.if-solid_of.false)

pub returns-in_default : goal.returns-in_default
returns-in_default c = output_none _ _ _ _ _ c.in_default.is
