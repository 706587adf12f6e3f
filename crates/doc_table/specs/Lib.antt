pub mod Abbreviated
pub mod Entries
pub mod Listed
pub mod Slots
pub mod inner
