-- What code and proofs share, and no promise speaks of.
pub mod AtOnce
pub mod Attended
pub mod Devices
pub mod Ended
pub mod Going
pub mod Good
pub mod Halts
pub mod Idling
pub mod InBlock
pub mod Parts
pub mod Places
pub mod Ran
pub mod Refilled
pub mod Seats
