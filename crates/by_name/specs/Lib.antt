pub mod Inner
pub mod Names
