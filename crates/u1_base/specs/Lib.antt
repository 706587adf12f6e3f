pub mod Causes
pub mod Fields
pub mod Ids
pub mod KeyTexts
pub mod NewId
pub mod Places
pub mod Storage
