pub mod Chunks
pub mod Ends
pub mod Chunked
pub mod Looks
pub mod inner
