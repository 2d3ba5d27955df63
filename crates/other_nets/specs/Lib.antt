pub mod Others
pub mod OtherLaws
pub mod Keeping
