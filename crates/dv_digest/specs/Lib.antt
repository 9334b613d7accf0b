pub mod Fits
pub mod HashedExtracts
pub mod Tiny
