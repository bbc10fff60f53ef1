-- Worked rows: theorems whose two sides compute to one value, with what they are made of.
pub mod CaretRows
pub mod CodeNoteRows
pub mod ComingRows
pub mod DueRows
pub mod InputNoteRows
pub mod ItemRows
pub mod LimitRows
pub mod LineRows
pub mod MendingRows
pub mod PermissionRows
pub mod PlaceRows
pub mod PolicyNoteRows
pub mod StartRows
