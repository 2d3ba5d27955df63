pub mod Plan
pub mod Judging
pub mod JudgeLaws
pub mod Entry
pub mod EntryLaws
pub mod PromiseLaws
