mod Worked
pub mod Tests
pub mod SecondsLaws
pub mod FreshLaws
pub mod OrderLaws
pub mod UnionLaws
pub mod RunLaws
pub mod LaterLaws
pub mod PlaceLaws
pub mod KeptLaws
pub mod FitsLaws
