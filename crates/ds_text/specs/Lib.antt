pub mod Digits
pub mod Names
pub mod Sent
pub mod Words
pub mod Rows
