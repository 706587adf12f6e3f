pub mod Fields
pub mod Kinds
pub mod Words
pub mod Texts
pub mod Values
pub mod Keys
pub mod Asked
pub mod inner
