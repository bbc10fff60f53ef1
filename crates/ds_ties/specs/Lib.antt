pub mod Ties
pub mod Texts
pub mod Rows
