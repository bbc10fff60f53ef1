-- What code and proofs share, and no promise speaks of.
pub mod Came
pub mod Laws
pub mod Listing
pub mod Plain
pub mod Sources
pub mod Texts
