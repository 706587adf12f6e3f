-- What each command does to one replica: from its state, the operands, the seed and the content that was read to the
-- steps and the lines that are printed, or to a refusal.
pub mod Effects
pub mod Edits
pub mod Documents
pub mod Indexes
pub mod Logs
