-- `sinks_told` meets its contract: the first sixteen records are handed on.
use mathlib.Core.Path.{sym}
use lib.Seq.{length-take-le}
use Rattle.repeater_reply.specs.ReplyLaws.{most-there, most-few, sinks-are}
use Rattle.repeater_reply.proofs.sinks_told.Goals as goal

pub slice_bounds-sinks_of-end : goal.slice_bounds-sinks_of-end
slice_bounds-sinks_of-end c = sym (length-take-le _ _ (most-there c.args.numbers.now c.min-most.ensures))

pub sinks_of-held-requires : goal.sinks_of-held-requires
sinks_of-held-requires c = most-few c.args.numbers.now c.min-most.ensures

pub returns : goal.returns
returns c = sinks-are _ c.min-most.ensures c.sinks_of-held.ensures
