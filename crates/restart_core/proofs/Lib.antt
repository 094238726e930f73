pub mod StartLaws
pub mod DamageLaws
pub mod EarlierLaws
pub mod QueryLaws
