pub mod Faults
pub mod Trio
pub mod Joint
pub mod Moments
pub mod Disks
pub mod Laws
pub mod inner
