-- `lay_net` meets its contract: the tree is rooted, then supports and wire, then repeaters, then those of the sinks.
use mathlib.Core.Path.{◌∙◌}
use Rattle.laying.specs.NetLaws.{held_on, net_rootable, net-held, net-taps, net-marks, net-laid}
use Rattle.laying.proofs.lay_net.Goals as goal

pub root_tree-requires : goal.root_tree-requires
root_tree-requires c = net_rootable c.requires

pub lay_cells-requires-clause-room_held : goal.lay_cells-requires-clause-room_held
lay_cells-requires-clause-room_held c = let p = c.requires in net-held p

pub lay_cells-requires-clause-taps_held : goal.lay_cells-requires-clause-taps_held
lay_cells-requires-clause-taps_held c = let p = c.requires in net-taps p

pub lay_cells-requires-clause-marks_held : goal.lay_cells-requires-clause-marks_held
lay_cells-requires-clause-marks_held c = let p = c.requires in net-marks p c.root_tree.auto.links

pub lay_repeaters-requires-clause-room_held : goal.lay_repeaters-requires-clause-room_held
lay_repeaters-requires-clause-room_held c = let p = c.requires in held_on (net-held p) c.lay_cells.auto.kinds c.lay_cells.auto.facings

pub lay_repeaters-requires-clause-parents_held : goal.lay_repeaters-requires-clause-parents_held
lay_repeaters-requires-clause-parents_held c = let p = c.requires in c.root_tree.ensures.held

pub lay_repeaters-requires-clause-repeaters_len : goal.lay_repeaters-requires-clause-repeaters_len
lay_repeaters-requires-clause-repeaters_len c = let p = c.requires in p.repeaters-long

pub lay_sinks-requires-clause-room_held : goal.lay_sinks-requires-clause-room_held
lay_sinks-requires-clause-room_held c = let p = c.requires in held_on (net-held p) (c.lay_repeaters.auto.kinds ∙ c.lay_cells.auto.kinds) (c.lay_repeaters.auto.facings ∙ c.lay_cells.auto.facings)

pub lay_sinks-requires-clause-taps_inside : goal.lay_sinks-requires-clause-taps_inside
lay_sinks-requires-clause-taps_inside c = let p = c.requires in p.net.taps_in_lem

pub returns : goal.returns
returns c = net-laid _ _ _ _ c.root_tree.ensures _ _ _ _ c.lay_cells.ensures c.lay_repeaters.ensures c.lay_sinks.ensures
