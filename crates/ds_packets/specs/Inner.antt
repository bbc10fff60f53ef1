-- What code and proofs share, and no promise speaks of.
pub mod Scans
pub mod Streams
pub mod Words
