pub mod Printed
pub mod Notes
pub mod Tags
