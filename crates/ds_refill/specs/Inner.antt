-- What code and proofs share, and no promise speaks of.
pub mod Handler
pub mod Refill
pub mod Refills
