pub mod PlaceLemmas
pub mod Map
