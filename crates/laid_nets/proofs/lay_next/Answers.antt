-- `lay_next` meets its contract: the meeting, the owners, the room.
use Rattle.laid_nets.specs.NetLaws.{net_owning, net-laid}
use Rattle.laid_nets.specs.NetLaws.{net-laid}
use Rattle.laid_nets.proofs.lay_next.Goals as goal

pub own_cells-requires : goal.own_cells-requires
own_cells-requires c = net_owning c.requires c.overlap.ensures c.met_after-meeting.ensures

pub returns : goal.returns
returns c = net-laid c.requires c.overlap.ensures c.met_after-meeting.ensures c.own_cells.ensures c.lay_net.ensures
