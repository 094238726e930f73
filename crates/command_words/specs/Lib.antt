pub mod Options
pub mod Words
pub mod WellWorded
pub mod PopOptions
pub mod PopWords
