pub mod Labels
pub mod LabelLaws
pub mod OpeningLaws
pub mod CheckLaws
