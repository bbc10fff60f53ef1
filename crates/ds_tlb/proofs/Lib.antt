pub mod Matches
pub mod Bits
pub mod Lookups
pub mod Frames
pub mod Passed
