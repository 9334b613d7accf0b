pub mod GatheredItems
pub mod ItemCounts
pub mod ItemDeliveries
pub mod OfferedItems
pub mod SortedOffers
pub mod TaskFacts
pub mod Vocabulary
pub mod WindowFacts
