-- none
pub mod Vocabulary
