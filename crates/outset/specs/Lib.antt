pub mod Outset
pub mod OutsetLaws
pub mod SetOut
pub mod SetOutLaws
