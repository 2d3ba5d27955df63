-- `mark_sheet` meets its contract: a sheet of a list for which no number is due is accepted, and its ends are in the room.
use native.Mathlib.Omega.{arith}
use Rattle.job_list.specs.GoodNets.{good-ends-told, good-ends-are}
use Rattle.outset.specs.SetOutLaws.{good-room, source-within, sinks-within}
use Rattle.other_nets.specs.OtherLaws.{sheet-accepted, ends-inside, sheet-marked, own-unmarked}
use borrow.Author.Rules.{rules}
use Rattle.other_nets.proofs.protected.mark_sheet.Goals as goal

pub returns-else-not-own : goal.returns-else-not-own
returns-else-not-own c = own-unmarked c.args.room c.args.sheet.now _ c.if-not-own.false

pub realize_ends-requires-clause-good : goal.realize_ends-requires-clause-good
realize_ends-requires-clause-good c = let A = (sheet-accepted c.requires (λ i. omega (arith, c.shared_slice_known-1.given i)) c.read_sheet-reading.ensures) in good-room A

pub realize_ends-requires-clause-within : goal.realize_ends-requires-clause-within
realize_ends-requires-clause-within c = let A = (sheet-accepted c.requires (λ i. omega (arith, c.shared_slice_known-1.given i)) c.read_sheet-reading.ensures) in source-within A

pub realize_ends-requires-clause-sink_list : goal.realize_ends-requires-clause-sink_list
realize_ends-requires-clause-sink_list c = let A = (sheet-accepted c.requires (λ i. omega (arith, c.shared_slice_known-1.given i)) c.read_sheet-reading.ensures) in sinks-within A

pub unwrap-ends-requires : goal.unwrap-ends-requires
unwrap-ends-requires c = rw (good-ends-told c.requires.net (sheet-accepted c.requires (λ i. omega (arith, c.shared_slice_known-1.given i)) c.read_sheet-reading.ensures) c.realize_ends.ensures) (search rules)

pub mark_ends-requires-clause-good : goal.mark_ends-requires-clause-good
mark_ends-requires-clause-good c = c.requires.good

pub mark_ends-requires-clause-net_inside : goal.mark_ends-requires-clause-net_inside
mark_ends-requires-clause-net_inside c = ends-inside c.requires (sheet-accepted c.requires (λ i. omega (arith, c.shared_slice_known-1.given i)) c.read_sheet-reading.ensures) (good-ends-are c.requires.net (sheet-accepted c.requires (λ i. omega (arith, c.shared_slice_known-1.given i)) c.read_sheet-reading.ensures) c.realize_ends.ensures c.unwrap-ends.ensures)

pub mark_ends-requires-clause-marks_len : goal.mark_ends-requires-clause-marks_len
mark_ends-requires-clause-marks_len c = c.requires.long

pub returns-then-not-own : goal.returns-then-not-own
returns-then-not-own c = sheet-marked c.requires (sheet-accepted c.requires (λ i. omega (arith, c.shared_slice_known-1.given i)) c.read_sheet-reading.ensures) (good-ends-are c.requires.net (sheet-accepted c.requires (λ i. omega (arith, c.shared_slice_known-1.given i)) c.read_sheet-reading.ensures) c.realize_ends.ensures c.unwrap-ends.ensures) c.if-not-own.true c.mark_ends.ensures
