pub mod Text
pub mod Folded
pub mod BytePairs
pub mod Inner
