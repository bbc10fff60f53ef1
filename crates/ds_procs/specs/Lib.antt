pub mod Calls
pub mod Inner
