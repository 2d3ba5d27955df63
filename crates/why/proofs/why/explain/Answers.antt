-- `explain` meets its contract, by what becomes of the outputs.
use mathlib.Core.Path.{sym, ◌∙◌}
use Rattle.why.specs.WhyLaws.{told_no_route, explained_kept, explained_told, explained_zero}
use borrow.Author.Rules.{rules}
use Rattle.why.proofs.why.explain.Goals as goal

pub tell-requires : goal.tell-requires
tell-requires c = let t = told_no_route c.args.answer (sym c.outputs_for.ensures ∙ c.in-Told.is) in c.requires t.0 t.1

pub returns-in-Kept : goal.returns-in-Kept
returns-in-Kept c = explained_kept c.args.answer (sym c.outputs_for.ensures ∙ c.in-Kept.is)

pub returns-in-Told : goal.returns-in-Told
returns-in-Told c = explained_told c.args.answer (sym c.outputs_for.ensures ∙ c.in-Told.is) c.tell.ensures

pub returns-in-Zero : goal.returns-in-Zero
returns-in-Zero c = explained_zero c.clear_outputs.ensures.0 c.clear_outputs.ensures.1 c.args.answer (sym c.outputs_for.ensures ∙ c.in-Zero.is)
