pub mod Split
pub mod SplitLaws
pub mod Judged
pub mod Told
pub mod Grounds
pub mod JudgeLaws
pub mod Theorems
pub mod GoodNets
