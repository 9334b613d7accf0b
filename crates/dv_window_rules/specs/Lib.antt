pub mod Forms
pub mod Lengths
pub mod Staging
