-- `lay_sheet` meets its contract: read, its ends realized, and laid.
use Rattle.std.proofs.Common.{rules}
use Rattle.laid_nets.specs.NetLaws.{net-layable, sheet-laid}
use Rattle.job_list.specs.GoodNets.{good-reading, good-ends-told, good-ends-are}
use Rattle.outset.specs.SetOutLaws.{good-room, source-within, sinks-within}
use native.Mathlib.Omega.{arith}
use borrow.Author.Rules.{rules}
use Rattle.laid_nets.proofs.lay_sheet.Goals as goal

pub realize_ends-requires-clause-good : goal.realize_ends-requires-clause-good
realize_ends-requires-clause-good c =
    let A = good-reading c.requires.net (λ i. omega (arith, c.shared_slice_known-1.given i)) c.read_sheet-reading.ensures in good-room A

pub realize_ends-requires-clause-within : goal.realize_ends-requires-clause-within
realize_ends-requires-clause-within c =
    let A = good-reading c.requires.net (λ i. omega (arith, c.shared_slice_known-1.given i)) c.read_sheet-reading.ensures in source-within A

pub realize_ends-requires-clause-sink_list : goal.realize_ends-requires-clause-sink_list
realize_ends-requires-clause-sink_list c =
    let A = good-reading c.requires.net (λ i. omega (arith, c.shared_slice_known-1.given i)) c.read_sheet-reading.ensures in sinks-within A

pub unwrap-ends-requires : goal.unwrap-ends-requires
unwrap-ends-requires c = rw (good-ends-told c.requires.net (good-reading c.requires.net (λ i. omega (arith, c.shared_slice_known-1.given i)) c.read_sheet-reading.ensures) c.realize_ends.ensures) (search rules)

pub lay_next-requires : goal.lay_next-requires
lay_next-requires c = net-layable c.requires (good-reading c.requires.net (λ i. omega (arith, c.shared_slice_known-1.given i)) c.read_sheet-reading.ensures) (good-ends-are c.requires.net (good-reading c.requires.net (λ i. omega (arith, c.shared_slice_known-1.given i)) c.read_sheet-reading.ensures) c.realize_ends.ensures c.unwrap-ends.ensures)

pub returns : goal.returns
returns c = sheet-laid c.requires (good-reading c.requires.net (λ i. omega (arith, c.shared_slice_known-1.given i)) c.read_sheet-reading.ensures) (good-ends-are c.requires.net (good-reading c.requires.net (λ i. omega (arith, c.shared_slice_known-1.given i)) c.read_sheet-reading.ensures) c.realize_ends.ensures c.unwrap-ends.ensures) c.lay_next.ensures
