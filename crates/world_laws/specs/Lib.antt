pub mod Quiet
pub mod Worked
