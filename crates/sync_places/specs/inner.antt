-- Words that no public contract cites: those of proofs.
pub mod Last
pub mod Facts
