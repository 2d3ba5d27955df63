-- What rests on a definition that a wrong meaning in must-fail/ changes.
pub mod StairAsWritten
pub mod AsWrittenLaws
