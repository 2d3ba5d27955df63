-- `label_goals` meets its contract: each goal has the bound that the search gives, or the distance.
use mathlib.Core.Path.{◌∙◌}
use Rattle.goals.proofs.LabelledLaws.{goal_labels}
use Rattle.goals.proofs.left.label_goals.Goals as goal

pub write_labels-requires : goal.write_labels-requires
write_labels-requires c =
    let v = c.new-view.ensures in
    let asked = c.requires.labelable in
    rw v.0 (asked.joinable-long, c.label_cells-labelled.auto.known ∙ asked.known-long, c.requires.labels_len)

pub returns-clause-goal_labels : goal.returns-clause-goal_labels
returns-clause-goal_labels c =
    let v = c.new-view.ensures in
    goal_labels _ _ _ c.requires.labelable.good c.requires.labelable.start_in c.requires.labelable.kinds-long c.requires.labelable.says c.label_cells-labelled.ensures.turn_told.told (rw (v.0, v.1, v.2) at c.write_labels.ensures)

pub returns-clause-classes_unchanged : goal.returns-clause-classes_unchanged
returns-clause-classes_unchanged c =
    c.label_cells-labelled.ensures.classes_unchanged
