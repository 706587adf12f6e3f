pub mod Source
pub mod World
pub mod Worked
