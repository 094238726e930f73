pub mod Wakes
pub mod Marked
pub mod Turns
pub mod Firsts
pub mod Laws
