pub mod Bools
pub mod Unnamed
pub mod Equivalent
pub mod Scopes
pub mod Bounds
pub mod Fewness
