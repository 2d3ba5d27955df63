pub mod Lent
pub mod Clearing
