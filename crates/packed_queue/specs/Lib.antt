pub mod PackedQueue
pub mod PlaceLaws
