-- What rests on a definition that a wrong meaning in must-fail/ changes.
pub mod AloneLaws
pub mod MeetingLaws
pub mod PromiseTheorems
pub mod RoutingLaws
pub mod Theorems
