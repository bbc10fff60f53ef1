-- What code and proofs share, and no promise speaks of.
pub mod Lines
pub mod Spots
pub mod Starts
