pub mod Exact
pub mod Passed
pub mod Reach
pub mod Carets
pub mod Labels
pub mod Fronts
