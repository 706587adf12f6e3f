-- Words that no public contract cites: those of private contracts and of proofs.
pub mod Committing
pub mod Compacting
pub mod Opening
pub mod Placing
pub mod Replaying
