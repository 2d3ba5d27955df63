pub mod BlockedWorld
pub mod SeenLaws
pub mod RefreshLaws
