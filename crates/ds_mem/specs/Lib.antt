pub mod Memory
pub mod Inner
