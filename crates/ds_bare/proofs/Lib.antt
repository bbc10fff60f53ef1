pub mod Taken
pub mod Memories
pub mod Pieces
pub mod UnderWay
pub mod CutBetween
pub mod Zeros
pub mod Words
pub mod Coming
