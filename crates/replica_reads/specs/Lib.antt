-- What a state answers.
pub mod Documents
pub mod Changes
pub mod Faults
pub mod Patterns
pub mod Answers
pub mod Indexes
pub mod SameLists
pub mod IndexAnswers
