pub mod Bodies
pub mod Chains
pub mod Ends
pub mod Fronts
pub mod Lengths
pub mod Slices
pub mod Takings
pub mod Vocabulary
