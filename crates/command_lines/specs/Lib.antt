pub mod Lines
pub mod Outcomes
pub mod LastLines
pub mod Puts
pub mod Endings
