pub mod FitLaws
pub mod Theorems
