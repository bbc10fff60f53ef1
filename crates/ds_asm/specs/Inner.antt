-- What code and proofs share, and no promise speaks of.
pub mod Assembling
pub mod Faults
pub mod Forms
pub mod Lines
pub mod OnLiterals
pub mod Plain
