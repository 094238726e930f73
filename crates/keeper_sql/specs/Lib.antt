pub mod Schema
pub mod RowsAsValues
pub mod Store
pub mod Calls
pub mod Telling
pub mod Opening
pub mod Failing
