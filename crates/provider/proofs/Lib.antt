pub mod Items
pub mod Lookups
pub mod Tuples
