pub mod Lobbies
pub mod Loads
pub mod Prelude
pub mod Seats
