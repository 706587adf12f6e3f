pub mod Forms
pub mod Lists
pub mod Numerals
mod Worked
