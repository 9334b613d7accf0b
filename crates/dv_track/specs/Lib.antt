pub mod EffectFeedTables
pub mod EffectRows
pub mod FeedTables
pub mod Presences
pub mod Tracks
