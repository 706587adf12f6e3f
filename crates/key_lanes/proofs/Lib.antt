pub mod AbbreviatedKeys
pub mod AsciiLanes
pub mod BreakLanes
pub mod BreakLaws
pub mod DifferenceLanes
pub mod Fronts
pub mod Masks
