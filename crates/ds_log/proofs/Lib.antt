pub mod Lengths
pub mod Reports
