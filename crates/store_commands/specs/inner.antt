-- Words that no public contract cites: those of private contracts and of proofs.
pub mod Calls
pub mod Carries
pub mod Expressions
pub mod Prints
pub mod Shown
