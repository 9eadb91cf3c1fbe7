pub mod Inner
pub mod Thinned
