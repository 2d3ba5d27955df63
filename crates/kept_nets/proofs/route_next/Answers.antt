-- `route_next` meets its contract: read, cleared, routed and kept.
use mathlib.Core.Path.{◌≡◌, refl, sym, ap, ◌∙◌}
use native.Mathlib.Omega.{arith}
use Rattle.outset.specs.SetOutLaws.{good-room, source-within, sinks-within}
use Rattle.job_list.specs.GoodNets.{good-reading, good-ends-told, good-ends-are}
use Rattle.kept_nets.specs.KeepLaws.{net-asked, answer-keepable, next-routed}
use borrow.Author.Rules.{rules}
use Rattle.kept_nets.proofs.route_next.Goals as goal

pub realize_ends-requires-clause-good : goal.realize_ends-requires-clause-good
realize_ends-requires-clause-good c = let A = (good-reading c.requires.net (λ i. omega (arith, c.shared_slice_known-2-1.given i)) c.read_sheet-reading.ensures) in good-room A

pub realize_ends-requires-clause-within : goal.realize_ends-requires-clause-within
realize_ends-requires-clause-within c = let A = (good-reading c.requires.net (λ i. omega (arith, c.shared_slice_known-2-1.given i)) c.read_sheet-reading.ensures) in source-within A

pub realize_ends-requires-clause-sink_list : goal.realize_ends-requires-clause-sink_list
realize_ends-requires-clause-sink_list c = let A = (good-reading c.requires.net (λ i. omega (arith, c.shared_slice_known-2-1.given i)) c.read_sheet-reading.ensures) in sinks-within A

pub unwrap-ends-requires : goal.unwrap-ends-requires
unwrap-ends-requires c = rw (good-ends-told c.requires.net (good-reading c.requires.net (λ i. omega (arith, c.shared_slice_known-2-1.given i)) c.read_sheet-reading.ensures) c.realize_ends.ensures) (search rules)

pub route_net-answer-requires : goal.route_net-answer-requires
route_net-answer-requires c = net-asked c.requires (good-reading c.requires.net (λ i. omega (arith, c.shared_slice_known-2-1.given i)) c.read_sheet-reading.ensures) c.clear_marks.ensures.0 c.clear_marks.ensures.1

pub keep_answer-requires : goal.keep_answer-requires
keep_answer-requires c = answer-keepable c.requires (good-reading c.requires.net (λ i. omega (arith, c.shared_slice_known-2-1.given i)) c.read_sheet-reading.ensures) _ _ c.route_net-answer.ensures (good-ends-are c.requires.net (good-reading c.requires.net (λ i. omega (arith, c.shared_slice_known-2-1.given i)) c.read_sheet-reading.ensures) c.realize_ends.ensures c.unwrap-ends.ensures) (c.route_net-answer.auto.repeaters ∙ c.clear_marks.auto.planned ∙ c.requires.planned-long ∙ sym c.requires.repeaters-long)

pub returns : goal.returns
returns c = next-routed c.requires (good-reading c.requires.net (λ i. omega (arith, c.shared_slice_known-2-1.given i)) c.read_sheet-reading.ensures) _ _ c.route_net-answer.ensures (good-ends-are c.requires.net (good-reading c.requires.net (λ i. omega (arith, c.shared_slice_known-2-1.given i)) c.read_sheet-reading.ensures) c.realize_ends.ensures c.unwrap-ends.ensures) c.keep_answer.ensures
