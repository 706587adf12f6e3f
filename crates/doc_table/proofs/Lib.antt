mod Keys
pub mod Places
mod Slots
mod Stock
pub mod Walking
