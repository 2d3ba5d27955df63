-- `plan_lent` meets its contract: marks are cleared, the repeaters placed, and work memory cleared.
use mathlib.Core.Path.{◌∙◌}
use Rattle.basics.specs.Zeros.{cleared-to}
use Rattle.branches.specs.Branches.{branches_of}
use Rattle.repeater_plan.specs.Entry.{fault_in, marks_with}
use Rattle.repeater_plan.specs.EntryLaws.{frontable, settled}
use Rattle.repeater_plan.proofs.entry.plan_lent.Goals as goal

pub place_or_refuse-planned-requires : goal.place_or_refuse-planned-requires
place_or_refuse-planned-requires c = λ e g. frontable (c.requires e g) c.clear_marks.ensures.0 c.clear_marks.ensures.1

pub returns : goal.returns
returns c = settled c.args.room (marks_with c.args.room c.args.run (branches_of c.args.lengths c.args.branches.now) c.args.ends) _ (fault_in c.args.ends) c.clear_marks.ensures.0 _ _ c.place_or_refuse-planned.ensures (cleared-to (c.place_or_refuse-planned.auto.forbidden ∙ c.clear_marks.auto.forbidden) c.clear_work.ensures.0) (cleared-to c.place_or_refuse-planned.auto.links c.clear_work.ensures.1) (cleared-to c.place_or_refuse-planned.auto.parents c.clear_work.ensures.2) (cleared-to c.place_or_refuse-planned.auto.line c.clear_work.ensures.3)
