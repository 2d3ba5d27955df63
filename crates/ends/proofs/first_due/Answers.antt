-- `first_due` meets its contract: the source first, then the sinks one by one.
use Rattle.std.specs.Prelude.{◌≡◌, ◌≢◌, refl, ◌<◌, true, false, Option, Some, None}
use Rattle.std.proofs.Common.{sym, ◌∙◌, get_or-take, arith}
use Rattle.std.specs.Option.{option_eq}
use borrow.Author.Rules.{rules}
use Rattle.port_realization.specs.declared.EndFault.{EndFault}
use Rattle.port_realization.specs.contracts.EndFaultPartialEq.TheImpl.{eq-value}
use Rattle.job_sheet.specs.Sheet.{no_sink}
use Rattle.ends.specs.Ends.{due_for, source_end}
use Rattle.ends.specs.EndLaws.{sinks-long, none_passed, due-source, due-sink, due-none, sink-passed}
use Rattle.ends.proofs.first_due.Goals as goal

same : (o : Option EndFault) (due : EndFault) → option_eq eq-value.it o (Some due) ≡ true → o ≡ Some due
same None due e = search rules
same (Some EndFault.NoFacing) EndFault.NoFacing e = refl
same (Some EndFault.NoFacing) EndFault.Outside e = search rules
same (Some EndFault.Outside) EndFault.NoFacing e = search rules
same (Some EndFault.Outside) EndFault.Outside e = refl

other : (o : Option EndFault) (due : EndFault) → option_eq eq-value.it o (Some due) ≡ false → o ≢ Some due
other o EndFault.NoFacing e q = let f = rw q at e in search rules
other o EndFault.Outside e q = let f = rw q at e in search rules

pub returns-then-eq : goal.returns-then-eq
returns-then-eq c = due-source _ _ c.args.source c.requires.sink_list (rw (← c.source_end.ensures, ← c.err.ensures.value) (same _ _ (sym c.eq.ensures ∙ c.if-eq.true)))

pub loop-k-init : goal.loop-k-init
loop-k-init c = none_passed _ _ _

pub returns-then-eq-2 : goal.returns-then-eq-2
returns-then-eq-2 c =
    let S = c.requires.sink_list in
    let more : c.loop-k.k < c.args.sinks.count = omega (arith, c.loop-k-test.true, sinks-long S) in
    due-sink _ _ c.args.source S (not-source c) c.loop-k.invariant more
    (rw (← get_or-take c.args.sinks.count c.args.sinks.ends c.loop-k.k no_sink more, ← c.sink_end.ensures, ← c.err-in-loop-k.ensures.value) (same _ _ (sym c.eq-in-loop-k.ensures ∙ c.if-eq-2.true)))
  where
    not-source : (c : goal.Then-eq-2) → due_for (source_end c.args.room c.args.source) ≢ Some c.args.due
    not-source c = rw (← c.source_end.ensures, ← c.err.ensures.value) (other _ _ (sym c.eq.ensures ∙ c.if-eq.false))

pub loop-k-preserved : goal.loop-k-preserved
loop-k-preserved c =
    let S = c.requires.sink_list in
    let more : c.loop-k.k < c.args.sinks.count = omega (arith, c.loop-k-test.true, sinks-long S) in
    sink-passed S c.loop-k.invariant more
    (rw (← get_or-take c.args.sinks.count c.args.sinks.ends c.loop-k.k no_sink more, ← c.sink_end.ensures, ← c.err-in-loop-k.ensures.value) (other _ _ (sym c.eq-in-loop-k.ensures ∙ c.if-eq-2.false)))

pub returns : goal.returns
returns c =
    let S = c.requires.sink_list in
    due-none _ _ c.args.source S (rw (← c.source_end.ensures, ← c.err.ensures.value) (other _ _ (sym c.eq.ensures ∙ c.if-eq.false))) c.loop-k.invariant
    (omega (arith, c.loop-k-test.false, sinks-long S))
