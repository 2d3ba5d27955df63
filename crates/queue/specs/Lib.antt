pub mod Queue
pub mod BagLaws
pub mod HeapLaws
pub mod LeastLaws
pub mod Places
pub mod PutAtLaws
pub mod StepLaws
