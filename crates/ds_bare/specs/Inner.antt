-- What code and proofs share, and no promise speaks of.
pub mod Faults
pub mod Keys
pub mod Runs
