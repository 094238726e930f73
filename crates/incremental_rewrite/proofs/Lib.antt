pub mod Kept
pub mod Lined
