pub mod Streams
pub mod Memory
pub mod Pieces
pub mod Faults
pub mod Adapters
