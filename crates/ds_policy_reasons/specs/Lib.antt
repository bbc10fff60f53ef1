pub mod Reasons
pub mod CausePlaces
pub mod Texts
pub mod Keys
pub mod Kinds
pub mod Inner
pub mod Rows
