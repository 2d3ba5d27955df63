pub mod Answers
pub mod Entry
pub mod PromiseLaws
pub mod Sweeping
pub mod SweepingLaws
