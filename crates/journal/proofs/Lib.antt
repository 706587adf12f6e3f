pub mod Fields
pub mod Places
pub mod Appends
pub mod Staged
pub mod Entries
pub mod Restarts
pub mod Spells
pub mod ReaderFields
pub mod Readings
pub mod Passed
mod Examples
