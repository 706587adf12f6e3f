pub mod Images
pub mod Histories
pub mod Runs
pub mod Syncs
pub mod Choices
pub mod Counts
