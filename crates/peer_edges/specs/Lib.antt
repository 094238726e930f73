pub mod Asks
pub mod Watched
