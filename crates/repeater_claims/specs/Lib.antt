pub mod Between
pub mod BothWaysLaws
pub mod Standing
pub mod StandingLaws
pub mod OppositeLaws
pub mod BetweenLaws
pub mod LengthLaws
pub mod Claims
