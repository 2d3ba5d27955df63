-- What rests on a definition that a wrong meaning in must-fail/ changes.
pub mod ExportTheorems
pub mod Theorems
pub mod CauseTrueLaws
pub mod VerdictLaws
