pub mod Walk
pub mod ListLent
pub mod Parts
pub mod RestLaws
pub mod Walking
pub mod StepLaws
