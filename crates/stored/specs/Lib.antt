pub mod Memory
pub mod MemoryLaws
