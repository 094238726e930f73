pub mod Codes
mod Stories
mod Steps
mod Runs
pub mod Refusals
mod Crashes
mod Samples
mod SampleCrashes
mod Ends
mod OpenLaws
pub mod Versions
mod ChainLaws
mod PromptRuns
