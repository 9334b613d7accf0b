pub mod PitCells
pub mod PitRows
pub mod PitTables
