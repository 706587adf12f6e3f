pub mod Flushed
pub mod Lengths
pub mod Opens
