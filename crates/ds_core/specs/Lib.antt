pub mod Core
pub mod Access
pub mod Coprocessor
pub mod Effect
pub mod Inner
pub mod Rows
