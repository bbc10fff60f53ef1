pub mod Apart
pub mod Sizes
