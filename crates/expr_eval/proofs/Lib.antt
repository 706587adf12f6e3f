pub mod Folded
pub mod Places
pub mod WordsTaken
pub mod Products
pub mod Apart
pub mod Widths
pub mod AskedParts
