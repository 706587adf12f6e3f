pub mod Made
pub mod Seen
pub mod Asked
pub mod inner
