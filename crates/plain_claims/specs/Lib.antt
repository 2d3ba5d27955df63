pub mod Statements
pub mod Theorems
pub mod ExportTheorems
pub mod Samples
