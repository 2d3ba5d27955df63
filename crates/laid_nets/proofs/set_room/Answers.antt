-- `set_room` meets its contract: the blocks, then their facings.
use Rattle.laid_nets.specs.NetLaws.{room-set}
use Rattle.outset.specs.SetOutLaws.{good-room, block-list}
use Rattle.laid_nets.proofs.set_room.Goals as goal

pub place_blocks-placement-requires-clause-good : goal.place_blocks-placement-requires-clause-good
place_blocks-placement-requires-clause-good c = let A = c.requires.accepted in good-room A

pub place_blocks-placement-requires-clause-block_list : goal.place_blocks-placement-requires-clause-block_list
place_blocks-placement-requires-clause-block_list c = let A = c.requires.accepted in block-list A

pub place_blocks-placement-requires-clause-kinds_value : goal.place_blocks-placement-requires-clause-kinds_value
place_blocks-placement-requires-clause-kinds_value c = let A = c.requires.accepted in c.requires.kinds-clear

pub place_blocks-placement-requires-clause-nodes_value : goal.place_blocks-placement-requires-clause-nodes_value
place_blocks-placement-requires-clause-nodes_value c = let A = c.requires.accepted in c.requires.nodes-clear

pub place_facings-requires-clause-good : goal.place_facings-requires-clause-good
place_facings-requires-clause-good c = let A = c.requires.accepted in good-room A

pub place_facings-requires-clause-block_list : goal.place_facings-requires-clause-block_list
place_facings-requires-clause-block_list c = let A = c.requires.accepted in block-list A

pub place_facings-requires-clause-facings_value : goal.place_facings-requires-clause-facings_value
place_facings-requires-clause-facings_value c = let A = c.requires.accepted in c.requires.facings-clear

pub returns : goal.returns
returns c = room-set c.requires.accepted c.place_blocks-placement.ensures c.place_facings.ensures
