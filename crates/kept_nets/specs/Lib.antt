pub mod BranchSound
pub mod Keep
pub mod KeepLaws
