pub mod Keys
pub mod ReadMappings
mod ReadShapes
mod Stopped
pub mod Vocabulary
