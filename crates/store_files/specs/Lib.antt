pub mod Files
pub mod Lock
