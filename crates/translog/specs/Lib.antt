pub mod Entries
pub mod Log
pub mod Source
pub mod Checks
pub mod Laws
