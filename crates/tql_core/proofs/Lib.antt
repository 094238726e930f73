pub mod Bound
pub mod OfTheSecond
pub mod Growth
pub mod Equal
pub mod Slots
pub mod WordLaws
