-- `by_labels` meets its contract: the goals that are left are labelled, then tried.
use mathlib.Core.Path.{refl, ◌∙◌}
use Rattle.goals.proofs.GoalLaws.{SameMemory, memory-first, memory-next, memory-able}
use Rattle.goals.proofs.LabelledLaws.{left-first, able_labels, memory_passing, memory-told}
use Rattle.goals.proofs.labelled.by_labels.Goals as goal
use Rattle.goals.proofs.labelled.by_labels.Goals.{After-label_goals}

-- behind the first call marks and class bytes are as they were, and memory is as long
memory : (c : After-label_goals) → SameMemory c.args.joinable.now c.args.joinable.now c.args.blocked.now c.args.blocked.now c.args.classes.now c.label_goals.new.classes c.args.known.now c.label_goals.new.known c.args.previous.now c.label_goals.new.previous c.args.path.now c.args.path.now c.args.best.now c.label_goals.new.labels c.args.queue.now c.label_goals.new.queue
memory c = memory-next (memory-first c.args.joinable.now c.args.blocked.now c.args.classes.now c.args.known.now c.args.previous.now c.args.path.now c.args.best.now c.args.queue.now) (refl, refl, c.label_goals.ensures.classes_unchanged) c.label_goals.auto.known c.label_goals.auto.previous refl c.label_goals.auto.labels c.label_goals.auto.queue

pub label_goals-requires-clause-labelable : goal.label_goals-requires-clause-labelable
label_goals-requires-clause-labelable c =
    able_labels _ _ _ _ _ _ _ _ _ _ c.requires.attemptable

pub label_goals-requires-clause-labels_len : goal.label_goals-requires-clause-labels_len
label_goals-requires-clause-labels_len c =
    c.requires.passed_below.best-long

pub finish_labels-requires-clause-attemptable : goal.finish_labels-requires-clause-attemptable
finish_labels-requires-clause-attemptable c =
    let label = c.label_goals in memory-able c.args.turn.ground c.args.turn.kinds.now (memory (goal.at.finish_labels-requires-clause-attemptable c).After-label_goals) c.requires.attemptable

pub finish_labels-requires-clause-passing : goal.finish_labels-requires-clause-passing
finish_labels-requires-clause-passing c =
    let label = c.label_goals in memory_passing c.args.turn.ground c.args.turn.kinds.now (memory (goal.at.finish_labels-requires-clause-passing c).After-label_goals) _ (left-first c.requires.passed_below label.ensures.goal_labels label.auto.labels)

pub returns-clause-tells : goal.returns-clause-tells
returns-clause-tells c =
    let finish = c.finish_labels in memory-told c.args.turn.ground c.args.turn.kinds.now (memory (goal.at.returns-clause-tells c).After-label_goals) _ finish.ensures.tells

pub returns-clause-joinable_unchanged : goal.returns-clause-joinable_unchanged
returns-clause-joinable_unchanged c =
    let finish = c.finish_labels in (finish.ensures.joinable_unchanged.0, finish.ensures.joinable_unchanged.1, finish.ensures.joinable_unchanged.2 ∙ c.label_goals.ensures.classes_unchanged)
