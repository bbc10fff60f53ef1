-- What code and proofs share, and no promise speaks of.
pub mod Does
pub mod Operations
pub mod Page
pub mod Places
pub mod Turn
