pub mod Doors
pub mod Exchanges
pub mod Serving
pub mod Steps
pub mod Writing
