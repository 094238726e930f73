pub mod ProperLaws
