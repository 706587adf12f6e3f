pub mod Walks
pub mod Trios
pub mod Bridge
pub mod Runs
pub mod Turned
pub mod RootLast
