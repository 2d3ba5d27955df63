-- What rests on a definition that a wrong meaning in must-fail/ changes.
pub mod AcceptedLaws
pub mod FaultLaws
pub mod ReadLaws
pub mod ScanLaws
pub mod Theorems
