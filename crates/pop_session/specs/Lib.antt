pub mod Letters
pub mod Requests
pub mod Replies
pub mod Sessions
pub mod Laws
pub mod Ends
