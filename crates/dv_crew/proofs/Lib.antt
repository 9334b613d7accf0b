pub mod Counting
pub mod Joining
pub mod Laying
pub mod Vocabulary
