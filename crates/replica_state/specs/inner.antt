-- Words that no public contract cites: those of private contracts and of proofs.
pub mod Accepted
pub mod Exprs
pub mod Named
pub mod Sets
