pub mod Keeping
pub mod Leaving
pub mod States
pub mod Stored
