pub mod HubFeeds
pub mod JoinedNames
pub mod PartColumns
pub mod RowTexts
pub mod Vocabulary
pub mod WrittenTexts
