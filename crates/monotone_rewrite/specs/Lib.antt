pub mod Folding
pub mod Query
pub mod Laws
pub mod Kinds
