pub mod Pieces
pub mod Hearing
pub mod Served
