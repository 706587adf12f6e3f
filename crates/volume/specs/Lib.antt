pub mod Store
pub mod Crashes
pub mod Opening
pub mod Making
pub mod Laws
pub mod inner
