pub mod Why
pub mod Telling
pub mod ObstacleLaws
pub mod WhyLaws
