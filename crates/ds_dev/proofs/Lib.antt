pub mod Stores
pub mod Sure
