pub mod Wrote
pub mod OfItems
pub mod Keyed
pub mod Backed
pub mod Merging
mod Tupled
