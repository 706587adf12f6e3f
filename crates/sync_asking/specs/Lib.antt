pub mod Carried
pub mod Lines
pub mod Heard
pub mod inner
