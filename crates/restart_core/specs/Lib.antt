pub mod Starts
pub mod Damages
pub mod Readings
pub mod Earlier
pub mod Laws
