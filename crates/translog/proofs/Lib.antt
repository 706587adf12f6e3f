pub mod GrowingChanges
pub mod Growth
pub mod LastEntries
pub mod PlaceTests
pub mod Worked
