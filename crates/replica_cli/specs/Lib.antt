pub mod Store
pub mod Told
pub mod Seeds
pub mod Run
