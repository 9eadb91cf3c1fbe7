pub mod Inner
pub mod Pairs
