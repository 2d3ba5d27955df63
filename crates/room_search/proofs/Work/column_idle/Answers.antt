-- `Work::column_idle` meets its contract: it says so where all three moves are idle.
use Rattle.std.proofs.Common.{arith, below_more}
use borrow.Author.Tests.{not-false}
use Rattle.room_search.proofs.Work.column_idle.Goals as goal

pub loop-y-preserved : goal.loop-y-preserved
loop-y-preserved c = below_more _ _ c.loop-y.invariant (c.idle.ensures.told (not-false _ c.if-not-idle.false-raw))

pub returns : goal.returns
returns c = record { told = λ _ y h. c.loop-y.invariant y (omega arith) }
