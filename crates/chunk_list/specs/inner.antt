-- Words that no public contract cites: those of private contracts and of proofs.
pub mod Chunks
pub mod Edits
pub mod Ends
pub mod Halves
pub mod Sorted
