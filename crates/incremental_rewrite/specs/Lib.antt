pub mod Lines
pub mod Solved
