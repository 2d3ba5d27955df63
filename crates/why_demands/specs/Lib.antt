pub mod Statements
pub mod StepLaws
pub mod Theorems
pub mod ExportTheorems
pub mod Samples
