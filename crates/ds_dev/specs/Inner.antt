-- What code and proofs share, and no promise speaks of.
pub mod Bus
pub mod Known
pub mod Lending
