-- `tails_usual` meets its contract: the chain's test of each sink is the definition's.
use Rattle.std.proofs.Common.{rules, eqb, tests}
use Rattle.std.proofs.lemmas.Iterator.{YieldsList-from_slice, YieldsList-from_take}
use Rattle.std.proofs.lemmas.Iterator.Search.{all_from_yields_List}
use Rattle.job_sheet.specs.declared.Sink.{Sink}
use Rattle.job_sheet.specs.UsualLimits.{usual_tail}
use Rattle.sheet_writer.specs.Choice.{usual_tails}
use Rattle.sheet_writer.proofs.choice.tails_usual.Goals as goal

pub returns : goal.returns
unfolding usual_tails
returns c =
    all_from_yields_List (λ (k : Sink). eqb k.tail usual_tail) _ _ c.all.result c.all.ensures.ran (YieldsList-from_take c.args.sinks.count (YieldsList-from_slice c.args.sinks.ends cc) cc) (λ x b q k. search (rules, tests))
