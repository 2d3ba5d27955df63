pub mod Totals
pub mod TotalLaws
pub mod Answers
pub mod Entry
pub mod EntryLaws
pub mod PromiseLaws
