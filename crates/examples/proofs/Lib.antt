pub mod Arriving
pub mod Acceptances
pub mod Notes
pub mod Settling
pub mod Indexing
pub mod Reopened
