-- What code and proofs share, and no promise speaks of.
pub mod Goals
pub mod Serving
