pub mod Entries
pub mod Singles
pub mod Words
pub mod Inner
