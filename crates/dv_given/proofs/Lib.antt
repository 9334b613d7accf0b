pub mod EndSteps
pub mod ExtractSteps
pub mod MappingSteps
pub mod NumberSteps
pub mod ReadSteps
pub mod Vocabulary
pub mod WholeSteps
