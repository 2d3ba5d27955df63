pub mod Answers
pub mod Entry
pub mod FirstLaws
pub mod AnswerLaws
pub mod LentLaws
pub mod EntryLaws
pub mod PromiseLaws
