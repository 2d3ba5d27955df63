pub mod Statements
pub mod SingleLaws
pub mod OutcomeLaws
pub mod SinkLaws
pub mod StandingLaws
pub mod LaidLaws
