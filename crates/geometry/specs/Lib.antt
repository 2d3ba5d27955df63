pub mod Geometry
pub mod Along
pub mod PairLaws
pub mod StairLaws
pub mod LayLaws
pub mod GeometryLaws
pub mod AsWritten
