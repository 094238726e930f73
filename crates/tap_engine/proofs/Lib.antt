mod Moments
mod OwnerLaws
mod AddedRows
mod UndoLaws
mod ReadyLaws
mod CheckLaws
mod StandingLaws
mod AskLaws
mod DueLaws
mod MemoryRefusals
mod PerformLaws
mod CostLaws
mod NoteLaws
mod MboxLaws
mod FilterLaws
mod ReadLaws
mod LookupLaws
mod LetterLaws
pub mod FormedLaws
pub mod StartedLaws
