pub mod Returns
pub mod Quotes
pub mod Plain
pub mod Mailboxes
