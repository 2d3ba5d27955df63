pub mod Search
pub mod Ways
pub mod Statements
pub mod ListsAfterSet
