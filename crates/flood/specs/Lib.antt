pub mod Walls
pub mod Flooding
pub mod TableLaws
pub mod FloodLaws
pub mod WallLaws
