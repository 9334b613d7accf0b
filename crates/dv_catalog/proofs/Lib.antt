pub mod Again
pub mod FirstAnswers
pub mod PlaceSteps
mod SameEntries
pub mod TablesIn
mod TableSteps
pub mod ValidReads
pub mod Vocabulary
