pub mod Appending
pub mod Ends
pub mod Exact
pub mod Order
pub mod Played
pub mod Playing
pub mod Prelude
pub mod Stops
