pub mod Apart
mod Faultless
mod Finding
mod PathSteps
pub mod Resolved
mod ValidEntries
pub mod ValidMappings
pub mod Vocabulary
