pub mod Reader
pub mod ReaderLaws
pub mod Theorems
