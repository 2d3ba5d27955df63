pub mod LaidNets
pub mod Layings
pub mod FacingLaws
pub mod CountLaws
pub mod NetLaws
