-- Words that no public contract cites: those of private contracts and of proofs.
pub mod Hearing
pub mod Occurrence
pub mod Parts
