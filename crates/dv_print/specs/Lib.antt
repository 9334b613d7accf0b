pub mod HubFeeds
pub mod QueryTexts
pub mod TableTexts
pub mod Texts
pub mod Words
pub mod Writers
