pub mod WrittenForms
pub mod Pages
pub mod Places
pub mod SourceLines
pub mod ImageSizes
pub mod AllFaults
