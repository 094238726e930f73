pub mod Delta
pub mod Laws
pub mod Asking
