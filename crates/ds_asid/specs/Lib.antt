pub mod Spaces
pub mod Inner
