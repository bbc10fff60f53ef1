-- What code and proofs share, and no promise speaks of.
pub mod Buckets
pub mod Entries
pub mod Frames
pub mod Singles
pub mod Windows
