pub mod Rules
pub mod RuleLines
pub mod RuleTexts
pub mod Ratings
pub mod Listings
pub mod Laws
