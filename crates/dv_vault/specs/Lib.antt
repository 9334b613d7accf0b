pub mod Additions
pub mod Keeping
pub mod NamesApart
pub mod Results
pub mod Vaults
