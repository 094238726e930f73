pub mod PlanLaws
mod LeftLaws
pub mod PlaceLaws
pub mod NewLaws
mod DeliveryLaws
mod VariableLaws
pub mod TextLaws
mod FindLaws
pub mod BoxFrontLaws
mod SumLaws
pub mod RunLaws
pub mod AskedLaws
