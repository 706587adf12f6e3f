-- Words that no public contract cites: those of private contracts and of proofs.
pub mod Adding
pub mod Fields
pub mod Restarting
