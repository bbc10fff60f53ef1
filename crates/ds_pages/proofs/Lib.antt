pub mod Blank
pub mod Done
pub mod Fits
pub mod Known
pub mod Pages
