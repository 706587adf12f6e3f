pub mod Putting
pub mod Listing
pub mod JsonLists
mod Worked
pub mod Endings
