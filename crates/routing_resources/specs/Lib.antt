pub mod Marks
pub mod MarkLaws
pub mod Resources
pub mod ResourceLaws
