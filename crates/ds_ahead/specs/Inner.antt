-- What code and proofs share, and no promise speaks of.
pub mod Ahead
pub mod Code
pub mod Goes
pub mod Operations
pub mod Placed
pub mod Ride
pub mod Run
pub mod Stops
