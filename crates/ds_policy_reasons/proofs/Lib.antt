pub mod ReasonsTold
pub mod OddKeys
pub mod FirstSaid
