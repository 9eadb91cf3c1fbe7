pub mod Functions
pub mod Inner
