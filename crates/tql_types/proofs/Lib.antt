pub mod Moments
pub mod Ranges
pub mod ScopeLaws
pub mod BoundLaws
