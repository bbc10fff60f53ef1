-- What code and proofs share, and no promise speaks of.
pub mod Advanced
pub mod Counted
pub mod Handed
pub mod Processors
pub mod Shows
pub mod Summed
pub mod Traces
