pub mod Table
pub mod Fields
pub mod Plain
pub mod Named
pub mod Reading
pub mod Writing
pub mod inner
