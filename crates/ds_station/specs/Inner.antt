-- What code and proofs share, and no promise speaks of.
pub mod Alone
pub mod Faults
pub mod Headline
pub mod Outcome
pub mod Pieces
pub mod Reads
pub mod Runs
pub mod Station
pub mod Written
