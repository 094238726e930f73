mod AddLaws
mod Ballots
mod CountLaws
mod CountingLaws
mod EntryLaws
mod FoundLaws
mod KindLaws
mod ScoreOrder
mod SmallLaws
mod SortedScores
pub mod TallyLaws
mod VoteBallots
