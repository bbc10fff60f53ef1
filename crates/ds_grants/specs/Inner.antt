-- What code and proofs share, and no promise speaks of.
pub mod Buffer
pub mod Changes
pub mod Children
pub mod Copies
pub mod Counts
pub mod First
pub mod Frames
pub mod Free
pub mod Order
pub mod Origins
pub mod Parents
pub mod Represented
pub mod Rewords
pub mod Sound
pub mod State
