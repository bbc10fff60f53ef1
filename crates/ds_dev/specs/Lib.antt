pub mod Words
pub mod Serial
pub mod Clock
pub mod Bus
pub mod Inner
pub mod Rows
