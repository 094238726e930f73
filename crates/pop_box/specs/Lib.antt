pub mod Letters
pub mod Served
pub mod Prompt
pub mod Conclusions
