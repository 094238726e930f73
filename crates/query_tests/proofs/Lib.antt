pub mod RunPlans
mod WakePlans
