-- What code and proofs share, and no promise speaks of.
pub mod Access
pub mod Encoding
pub mod Instruction
pub mod Shapes
