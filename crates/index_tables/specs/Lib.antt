pub mod Abbreviated
pub mod Documents
pub mod Entries
pub mod Order
pub mod Seen
pub mod Table
pub mod inner
