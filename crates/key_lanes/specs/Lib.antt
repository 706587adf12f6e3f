pub mod AbbreviatedKeys
pub mod Breaks
pub mod inner
