pub mod LastPlaces
pub mod Laters
pub mod Growing
pub mod Lines
pub mod Sending
pub mod Pairs
