pub mod Nets
pub mod Routes
pub mod RouteLaws
pub mod Theorems
