pub mod Bodies
pub mod Steps
pub mod Laws
pub mod Decoding
pub mod Encoding
pub mod inner
