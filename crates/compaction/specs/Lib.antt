pub mod Compaction
pub mod Images
pub mod Law
pub mod inner
