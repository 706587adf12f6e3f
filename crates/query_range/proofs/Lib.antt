pub mod Alone
pub mod Begins
pub mod ByDocuments
pub mod Firsts
pub mod Keys
pub mod Laws
pub mod Meeting
pub mod Places
pub mod Ranges
pub mod Reading
pub mod Runs
pub mod Walks
mod Worked
