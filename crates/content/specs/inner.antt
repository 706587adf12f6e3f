-- Words that no public contract cites: those of private contracts and of proofs.
pub mod Fronts
pub mod Kinds
pub mod Pieces
pub mod Plain
