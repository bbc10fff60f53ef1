-- What code and proofs share, and no promise speaks of.
pub mod Access
pub mod Coprocessor
pub mod Core
