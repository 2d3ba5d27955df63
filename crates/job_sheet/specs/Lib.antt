pub mod UsualLimits
pub mod Version
pub mod VersionLaws
pub mod Sheet
pub mod Places
pub mod RecordLaws
pub mod LayoutLaws
pub mod Accepted
