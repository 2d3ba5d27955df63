pub mod WhyTree
pub mod Telling
