-- `put_ends` meets its contract: what is put, and what is left to put, are the whole.
use Rattle.putting.specs.PutLaws.{putting_begun}
use Rattle.sheet_writer.specs.TextLaws.{end_fits, ends_on, ends-done}
use Rattle.sheet_writer.proofs.puts.put_ends.Goals as goal

pub loop-sink-init : goal.loop-sink-init
loop-sink-init c = putting_begun

pub put_sink-end-requires : goal.put_sink-end-requires
put_sink-end-requires c = end_fits c.args.version _ _ c.loop-sink.invariant c.loop-sink-test.true c.requires.fits

pub loop-sink-preserved : goal.loop-sink-preserved
loop-sink-preserved c = ends_on c.args.version _ _ c.loop-sink.invariant c.loop-sink-test.true c.put_sink-end.ensures

pub returns : goal.returns
returns c = ends-done c.args.version _ _ c.loop-sink.invariant c.loop-sink-test.false
