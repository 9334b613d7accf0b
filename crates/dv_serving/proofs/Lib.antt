pub mod Chained
pub mod Doored
pub mod Linked
pub mod Stepped
pub mod Vocabulary
