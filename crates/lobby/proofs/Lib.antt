pub mod Attaching
pub mod Busies
pub mod Closing
pub mod Leasts
pub mod Loading
pub mod Placed
pub mod Splitting
