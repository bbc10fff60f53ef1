pub mod Lengths
pub mod LentTexts
pub mod Sends
