pub mod Trims
pub mod Stands
pub mod Unique
pub mod FirstFault
pub mod Bodies
pub mod WholeStreams
pub mod CleanTexts
pub mod ClockTexts
mod Sayings
pub mod ObjectsBack
pub mod StreamBack
pub mod Came
pub mod GoingOn
pub mod Serving
pub mod Fronts
pub mod Messages
mod Lengths
