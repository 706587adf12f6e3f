pub mod Seen
pub mod Phase
pub mod Phases
pub mod Sessions
pub mod Peers
pub mod Worked
pub mod Laws
