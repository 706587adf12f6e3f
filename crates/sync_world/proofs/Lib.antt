pub mod Made
pub mod Responses
pub mod Turns
pub mod Traced
