pub mod SortedOnce
pub mod LeastKeys
pub mod AnswersBy
pub mod KeysBy
pub mod Globs
pub mod Querying
pub mod Listing
pub mod ListedDocuments
pub mod Placing
pub mod SameKept
pub mod SameStates
pub mod LentAnswers
mod Worked
