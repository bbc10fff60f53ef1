pub mod Settled
pub mod Due
pub mod Lawful
pub mod Further
pub mod Rows
