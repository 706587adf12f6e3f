pub mod StepLaws
pub mod BodyLaws
pub mod StepKinds
pub mod Writings
pub mod Answered
pub mod Worked
