mod Converted
pub mod Refused
mod PutFields
mod PlainTexts
pub mod SameTrees
mod Ordered
pub mod ReadBack
mod NumberLength
mod Sizes
mod Placed
mod Quoted
mod Lexed
mod Shorter
mod Utf8Texts
pub mod CanonicalTexts
pub mod Reading
mod Examples
pub mod SpelledTrees
mod PlainLanes
mod FlatTexts
mod SpelledTexts
mod MadeTrees
mod PartTrees
