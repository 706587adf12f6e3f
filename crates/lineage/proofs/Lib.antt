pub mod Descent
pub mod Growing
pub mod Descended
pub mod Lawful
