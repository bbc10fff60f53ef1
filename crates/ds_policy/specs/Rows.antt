-- Worked rows: theorems whose two sides compute to one value, with what they are made of.
pub mod EndRows
pub mod InputCauseRows
pub mod InputEvents
pub mod InputRows
pub mod PolicyBounds
pub mod PolicyCauseRows
pub mod PolicyRows
