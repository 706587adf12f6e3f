pub mod Lineage
pub mod Histories
pub mod Laws
pub mod inner
