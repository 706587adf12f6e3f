pub mod Opened
pub mod Put
pub mod inner
