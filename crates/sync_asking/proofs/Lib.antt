mod Lengths
pub mod Given
pub mod Asks
mod Ends
pub mod SmallReplies
