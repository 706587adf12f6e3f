pub mod Links
pub mod Doors
pub mod Doing
pub mod Memory
pub mod Serving
pub mod Laws
