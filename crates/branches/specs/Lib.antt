pub mod Branches
pub mod BranchLaws
pub mod WriteLaws
pub mod LoopLaws
