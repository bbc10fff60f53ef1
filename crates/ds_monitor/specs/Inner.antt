-- What code and proofs share, and no promise speaks of.
pub mod Blind
pub mod Coming
pub mod Commands
pub mod Consoles
pub mod Ended
pub mod Kept
pub mod Orderly
pub mod Room
pub mod Sending
pub mod Taking
