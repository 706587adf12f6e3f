pub mod Finding
pub mod Standing
pub mod Roots
pub mod Makes
pub mod Moves
pub mod Adds
pub mod Opens
pub mod Examples
