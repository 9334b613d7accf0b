pub mod Orders
pub mod Results
pub mod Work
