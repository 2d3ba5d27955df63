pub mod Marked
pub mod Lines
pub mod LineLaws
pub mod BranchLineLaws
pub mod Printed
pub mod BranchCountLaws
pub mod PrintedLaws
pub mod NumberLaws
