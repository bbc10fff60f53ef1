pub mod Fetches
pub mod Users
