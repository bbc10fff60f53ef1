pub mod Frames
pub mod Zeros
pub mod Words
pub mod Parts
