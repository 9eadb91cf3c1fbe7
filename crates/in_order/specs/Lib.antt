pub mod InOrder
pub mod Inner
