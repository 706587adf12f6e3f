pub mod Alphabets
pub mod Booleans
pub mod IdFacts
pub mod MadeIds
pub mod SameIds
pub mod SamePlaces
pub mod Worked
