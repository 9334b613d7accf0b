pub mod CellLoads
pub mod PitCells
pub mod PitTells
pub mod UpTo
pub mod Vocabulary
