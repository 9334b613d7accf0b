pub mod HubContents
pub mod KeyOrder
pub mod MartTexts
pub mod OfferedMarts
pub mod PathTables
pub mod Whats
