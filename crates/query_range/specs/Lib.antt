pub mod Answers
pub mod Faults
pub mod Patterns
pub mod SeenIds
pub mod inner
