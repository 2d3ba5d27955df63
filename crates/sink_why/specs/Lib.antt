pub mod SinkWhy
pub mod Telling
pub mod ReasonLaws
pub mod GrowthAgainLaws
pub mod TurnLaws
pub mod WhyLaws
pub mod PromiseLaws
