pub mod DocumentKeys
pub mod Changing
pub mod Building
pub mod Lists
pub mod Named
pub mod Sets
pub mod Steps
pub mod Putting
pub mod Lending
mod Worked
pub mod Fitting
pub mod Replaying
mod WaitingAccepts
