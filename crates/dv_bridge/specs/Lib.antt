pub mod BridgeRows
pub mod BridgeTables
pub mod FirstWays
pub mod Joins
pub mod KeyedRows
pub mod Paths
pub mod Ways
pub mod ZeroKeys
