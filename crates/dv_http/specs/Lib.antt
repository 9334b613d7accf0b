pub mod Buffers
pub mod Fields
pub mod Found
pub mod Heads
pub mod Replies
pub mod Requests
pub mod Targets
