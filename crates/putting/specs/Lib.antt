pub mod Putting
pub mod PutLaws
