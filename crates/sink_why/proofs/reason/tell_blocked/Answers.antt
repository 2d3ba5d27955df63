-- `tell_blocked` meets its contract: what is set out again is what was set out.
use Rattle.outset.specs.SetOutLaws.{good-room}
use Rattle.sink_why.specs.ReasonLaws.{front_long, causes-asked, blocked-told}
use Rattle.sink_why.proofs.reason.tell_blocked.Goals as goal

pub set_out-requires : goal.set_out-requires
set_out-requires c = c.requires.set

pub volume-cells-requires : goal.volume-cells-requires
volume-cells-requires c = good-room c.requires.set.accepted

pub slice_bounds-tell_causes-end-3 : goal.slice_bounds-tell_causes-end-3
slice_bounds-tell_causes-end-3 c = front_long c.requires c.set_out.ensures.is_set c.clear.ensures c.volume-cells.ensures

pub tell_causes-requires : goal.tell_causes-requires
tell_causes-requires c = causes-asked c.requires c.set_out.ensures.is_set c.clear.ensures c.volume-cells.ensures c.set_out.auto.kinds c.set_out.auto.nodes

pub returns-clause-blocked_told : goal.returns-clause-blocked_told
returns-clause-blocked_told c = blocked-told c.requires c.set_out.ensures.is_set c.clear.ensures c.volume-cells.ensures c.tell_causes.ensures
