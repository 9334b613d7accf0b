pub mod Told
pub mod Vocabulary
