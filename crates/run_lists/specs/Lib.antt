pub mod Lists
pub mod Shares
pub mod Kept
pub mod Questions
pub mod Promise
pub mod Sessions
