-- What code and proofs share, and no promise speaks of.
pub mod Missing
pub mod Plain
pub mod Reasons
pub mod Told
