pub mod Texts
pub mod Listing
pub mod Sources
pub mod NamedTexts
pub mod Places
pub mod Pages
pub mod Inner
pub mod Rows
