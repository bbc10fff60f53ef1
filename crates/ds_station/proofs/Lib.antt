pub mod Runs
pub mod Headlines
pub mod NamedTexts
pub mod Preparing
pub mod Quiet
pub mod Guarded
pub mod Along
mod Reading
pub mod Showing
pub mod Alone
pub mod Standings
pub mod InPieces
pub mod Outcomes
