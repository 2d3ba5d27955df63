pub mod Causes
pub mod CauseLaws
pub mod BlockedLaws
