pub mod CallsEnds
pub mod CommandsDone
pub mod CallsMade
pub mod CallsTaken
pub mod CallsIndexes
pub mod Runs
pub mod CallsStaged
pub mod Groups
mod Worked
