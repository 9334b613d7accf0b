pub mod FeedTables
pub mod MultiFeedTables
pub mod MultiRows
pub mod RowPlaces
pub mod SatRows
