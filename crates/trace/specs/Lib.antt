pub mod Traces
pub mod TraceLaws
