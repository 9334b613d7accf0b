pub mod DeliverySets
pub mod HashedWindows
pub mod ItemClasses
pub mod ItemKeys
pub mod Offered
pub mod Tasks
pub mod WindowItems
