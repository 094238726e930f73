pub mod Verdicts
pub mod Marks
pub mod ReplyCosts
