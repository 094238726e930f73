mod FromEnd
pub mod Halves
pub mod ListCutLaws
pub mod InPlaces
pub mod Entries
pub mod PostLaws
pub mod CutLaws
mod WordPosts
pub mod TextLaws
pub mod DateLaws
pub mod PlaceLists
pub mod ListWindows
pub mod NumberLaws
pub mod NoteLaws
pub mod SingleLists
pub mod HeldLaws
