pub mod Noted
pub mod Renamed
pub mod Cases
