pub mod Chosen
pub mod Moments
pub mod Explained
pub mod Inner
pub mod Rows
