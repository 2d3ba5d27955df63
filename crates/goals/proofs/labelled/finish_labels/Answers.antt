-- `finish_labels` meets its contract: once all goals are passed, the path of what is kept is fetched.
use mathlib.Core.Path.{◌≡◌, sym, ◌∙◌}
use Rattle.basics.specs.Tests.{never}
use Rattle.goals.proofs.GoalLaws.{SameMemory, memory-first, memory-next, memory-able}
use Rattle.goals.proofs.LabelledLaws.{memory-never, memory-all, memory-told}
use Rattle.goals.proofs.labelled.finish_labels.Goals as goal
use Rattle.goals.proofs.labelled.finish_labels.Goals.{After-pass_labels}

-- behind the first call marks and class bytes are as they were, and memory is as long
memory : (c : After-pass_labels) → SameMemory c.args.joinable.now c.pass_labels.new.joinable c.args.blocked.now c.pass_labels.new.blocked c.args.classes.now c.pass_labels.new.classes c.args.known.now c.pass_labels.new.known c.args.previous.now c.pass_labels.new.previous c.args.path.now c.pass_labels.new.path c.args.best.now c.pass_labels.new.labels c.args.queue.now c.pass_labels.new.queue
memory c = memory-next (memory-first c.args.joinable.now c.args.blocked.now c.args.classes.now c.args.known.now c.args.previous.now c.args.path.now c.args.best.now c.args.queue.now) c.pass_labels.ensures.joinable_unchanged c.pass_labels.auto.known c.pass_labels.auto.previous c.pass_labels.auto.path c.pass_labels.auto.labels c.pass_labels.auto.queue

pub fetch_route-requires-clause-attemptable : goal.fetch_route-requires-clause-attemptable
fetch_route-requires-clause-attemptable c =
    let pass = c.pass_labels in memory-able c.args.turn.ground c.args.turn.kinds.now (memory (goal.at.fetch_route-requires-clause-attemptable c).After-pass_labels) c.requires.attemptable

pub fetch_route-requires-clause-best_len : goal.fetch_route-requires-clause-best_len
fetch_route-requires-clause-best_len c =
    let pass = c.pass_labels in pass.auto.labels ∙ c.requires.passing.labels_long

pub fetch_route-requires-clause-never_full : goal.fetch_route-requires-clause-never_full
fetch_route-requires-clause-never_full c =
    let pass = c.pass_labels in memory-never c.args.turn.ground c.args.turn.kinds.now (memory (goal.at.fetch_route-requires-clause-never_full c).After-pass_labels) _ c.requires.passing.never-full

pub fetch_route-requires-clause-all_passed : goal.fetch_route-requires-clause-all_passed
fetch_route-requires-clause-all_passed c =
    let pass = c.pass_labels.ensures.all_passed in
    let same : pass.kept ≡ c.in_ok-kept.kept = cc (sym pass.is ∙ c.in_ok-kept.was) in
    memory-all c.args.turn.ground c.args.turn.kinds.now (memory (goal.at.fetch_route-requires-clause-all_passed c).After-pass_labels) _ (rw same at pass.passed)

pub returns-clause-tells : goal.returns-clause-tells
returns-clause-tells c =
    let pass = c.pass_labels in
    let fetch = c.fetch_route in memory-told c.args.turn.ground c.args.turn.kinds.now (memory (goal.at.returns-clause-tells c).After-pass_labels) _ fetch.ensures.tells

pub returns-clause-joinable_unchanged : goal.returns-clause-joinable_unchanged
returns-clause-joinable_unchanged c =
    let pass = c.pass_labels in
    let fetch = c.fetch_route in (fetch.ensures.joinable_unchanged.0 ∙ pass.ensures.joinable_unchanged.0, fetch.ensures.joinable_unchanged.1 ∙ pass.ensures.joinable_unchanged.1, fetch.ensures.joinable_unchanged.2 ∙ pass.ensures.joinable_unchanged.2)

pub returns-in_err-kept : goal.returns-in_err-kept
returns-in_err-kept c = absurd (never (cc (sym c.pass_labels.ensures.all_passed.is ∙ c.in_err-kept.was)))
