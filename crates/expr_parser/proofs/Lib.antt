pub mod Classes
pub mod Machine
pub mod Complete
pub mod Passed
pub mod Sound
pub mod Place
pub mod Texts
pub mod Steps
pub mod Spelled
pub mod SameForms
pub mod Joined
pub mod ReadBack
mod Examples
