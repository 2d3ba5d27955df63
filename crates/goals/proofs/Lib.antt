-- What rests on a definition that a wrong meaning in must-fail/ changes.
pub mod AttemptLaws
pub mod FullLaws
pub mod GoalLaws
pub mod LabelledLaws
pub mod LeastLaws
pub mod PassingLaws
pub mod RouteLaws
