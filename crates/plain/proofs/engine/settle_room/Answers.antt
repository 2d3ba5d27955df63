-- `settle_room` meets its contract: classes are filled in, and the sweeps run over the room's own graph.
use Rattle.plain.specs.PromiseLaws.{room_settled}
use Rattle.plain.proofs.engine.settle_room.Goals as goal

pub returns : goal.returns
returns c =
    room_settled c.requires c.fill_classes.ensures (rw (c.make_end-2.ensures, c.make_end.ensures) at c.settle.ensures)
