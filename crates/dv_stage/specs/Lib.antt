pub mod Checks
pub mod Faults
pub mod Layouts
pub mod Neighbours
pub mod Partners
pub mod Remaining
pub mod Rivals
