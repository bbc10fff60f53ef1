pub mod Positions
pub mod Watching
pub mod Bytes
pub mod Going
pub mod Moving
pub mod Served
