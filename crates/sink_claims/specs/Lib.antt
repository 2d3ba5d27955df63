pub mod Statements
pub mod BitLaws
pub mod TreeWallLaws
pub mod ConflictLaws
pub mod SomeWayLaws
pub mod AnswerStatements
pub mod Samples
