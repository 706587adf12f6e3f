pub mod Faults
pub mod Decide
pub mod Seen
pub mod Asks
pub mod Returned
pub mod Laws
pub mod Served
pub mod inner
