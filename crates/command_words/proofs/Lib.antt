pub mod Taken
pub mod Numbers
pub mod Worded
pub mod Values
pub mod PopPairs
pub mod PopWorded
