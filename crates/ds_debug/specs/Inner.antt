-- What code and proofs share, and no promise speaks of.
pub mod Answering
pub mod Forward
pub mod Inputs
pub mod Leaps
pub mod Past
pub mod Registers
pub mod Serving
pub mod Sessions
pub mod Sights
