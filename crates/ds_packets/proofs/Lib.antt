pub mod Escapes
pub mod Pieces
pub mod Frames
pub mod Cuts
pub mod Parts
pub mod Lists
