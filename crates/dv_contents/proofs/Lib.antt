pub mod ContentFacts
pub mod ContentRows
pub mod FirstNumbers
pub mod PeriodFacts
pub mod SealedContents
pub mod Vocabulary
