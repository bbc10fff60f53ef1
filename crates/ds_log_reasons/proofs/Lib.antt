pub mod Adding
pub mod Paging
pub mod Slots
pub mod Sources
