pub mod Codes
pub mod System
pub mod Rows
