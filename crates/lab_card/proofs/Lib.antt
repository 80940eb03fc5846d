mod FileParts
pub mod OwnLines
pub mod Hearing
pub mod Meeting
pub mod Rooms
pub mod Running
mod Silence
