-- `write_sheet` meets its contract: the promise, by its cases.
use mathlib.Core.Path.{sym, ◌∙◌}
use Rattle.sheet_writer.specs.Writer.{parts}
use Rattle.sheet_writer.specs.ChoiceLaws.{by_parts}
use Rattle.sheet_writer.specs.PromiseLaws.{promise_fault, few-lists, few-sinks, promise_short, filling, promise_written}
use native.Mathlib.Omega.{arith}
use Rattle.sheet_writer.proofs.write_sheet.Goals as goal

pub invariant_of-parts : goal.invariant_of-parts
invariant_of-parts c = record { whole = c.well_formed.1.1.1.1.1.1.1.1.1.0.1.1.1.0.1.0.1 }

pub judge-judgement-requires : goal.judge-judgement-requires
judge-judgement-requires c = let a = c.args in c.version_for-version.ensures ∙ sym (by_parts (parts a.room a.config a.run a.blocks.now a.conductors.now a.clearances.now a.terminals.now a.reserved.now a.source a.sinks))

pub returns-then-not-is_good : goal.returns-then-not-is_good
returns-then-not-is_good c = promise_fault (parts c.args.room c.args.config c.args.run c.args.blocks.now c.args.conductors.now c.args.clearances.now c.args.terminals.now c.args.reserved.now c.args.source c.args.sinks) c.well_formed.1.1.1.1.1.1.1.1.1.0.1.1.1.0.1.0.1 c.args.out.now c.judge-judgement.ensures c.is_good.ensures c.if-not-is_good.true-raw c.refusal_for.ensures

pub sheet_length-bytes-requires : goal.sheet_length-bytes-requires
sheet_length-bytes-requires c = few-lists (parts c.args.room c.args.config c.args.run c.args.blocks.now c.args.conductors.now c.args.clearances.now c.args.terminals.now c.args.reserved.now c.args.source c.args.sinks) c.well_formed.1.1.1.1.1.1.1.1.1.0.1.1.1.0.1.0.1 c.args.out.now c.judge-judgement.ensures c.is_good.ensures c.if-not-is_good.false-raw c.lengths_of.ensures

pub returns-then-out-bytes : goal.returns-then-out-bytes
returns-then-out-bytes c = promise_short (parts c.args.room c.args.config c.args.run c.args.blocks.now c.args.conductors.now c.args.clearances.now c.args.terminals.now c.args.reserved.now c.args.source c.args.sinks) c.well_formed.1.1.1.1.1.1.1.1.1.0.1.1.1.0.1.0.1 c.args.out.now c.judge-judgement.ensures c.is_good.ensures c.if-not-is_good.false-raw (c.version_for-version.ensures ∙ sym (by_parts (parts c.args.room c.args.config c.args.run c.args.blocks.now c.args.conductors.now c.args.clearances.now c.args.terminals.now c.args.reserved.now c.args.source c.args.sinks))) c.lengths_of.ensures c.sheet_length-bytes.ensures c.if-out-bytes.true

pub fill_sheet-requires-clause-count_le_max_sinks : goal.fill_sheet-requires-clause-count_le_max_sinks
fill_sheet-requires-clause-count_le_max_sinks c = few-sinks (parts c.args.room c.args.config c.args.run c.args.blocks.now c.args.conductors.now c.args.clearances.now c.args.terminals.now c.args.reserved.now c.args.source c.args.sinks) c.well_formed.1.1.1.1.1.1.1.1.1.0.1.1.1.0.1.0.1 c.args.out.now c.judge-judgement.ensures c.is_good.ensures c.if-not-is_good.false-raw

pub fill_sheet-requires-clause-filling : goal.fill_sheet-requires-clause-filling
fill_sheet-requires-clause-filling c = filling (parts c.args.room c.args.config c.args.run c.args.blocks.now c.args.conductors.now c.args.clearances.now c.args.terminals.now c.args.reserved.now c.args.source c.args.sinks) c.well_formed.1.1.1.1.1.1.1.1.1.0.1.1.1.0.1.0.1 c.args.out.now c.judge-judgement.ensures c.is_good.ensures c.if-not-is_good.false-raw (c.version_for-version.ensures ∙ sym (by_parts (parts c.args.room c.args.config c.args.run c.args.blocks.now c.args.conductors.now c.args.clearances.now c.args.terminals.now c.args.reserved.now c.args.source c.args.sinks))) c.lengths_of.ensures c.sheet_length-bytes.ensures c.if-out-bytes.false

pub returns : goal.returns
returns c = promise_written (parts c.args.room c.args.config c.args.run c.args.blocks.now c.args.conductors.now c.args.clearances.now c.args.terminals.now c.args.reserved.now c.args.source c.args.sinks) c.well_formed.1.1.1.1.1.1.1.1.1.0.1.1.1.0.1.0.1 c.args.out.now c.judge-judgement.ensures c.is_good.ensures c.if-not-is_good.false-raw (c.version_for-version.ensures ∙ sym (by_parts (parts c.args.room c.args.config c.args.run c.args.blocks.now c.args.conductors.now c.args.clearances.now c.args.terminals.now c.args.reserved.now c.args.source c.args.sinks))) c.lengths_of.ensures c.sheet_length-bytes.ensures c.if-out-bytes.false (λ i. omega (arith, c.shared_slice_known-1.given i)) c.fill_sheet.ensures
