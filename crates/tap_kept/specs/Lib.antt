pub mod Keeping
pub mod BoxFronts
pub mod Starting
pub mod StoredRows
pub mod Costs
pub mod Lines
