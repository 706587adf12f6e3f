pub mod Refusals
mod InMemory
