pub mod Telling
pub mod Units
