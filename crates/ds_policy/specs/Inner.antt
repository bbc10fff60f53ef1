-- What code and proofs share, and no promise speaks of.
pub mod Ends
pub mod Families
pub mod FirstTable
pub mod InputFacts
pub mod InputText
pub mod KeyLines
pub mod Marks
pub mod Names
pub mod OwnRules
pub mod PolicyParts
pub mod Refusal
