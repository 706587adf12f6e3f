pub mod Counts
pub mod Clock
pub mod Stored
pub mod Compare
pub mod ClockText
pub mod Made
pub mod Laws
pub mod inner
