pub mod Inner
pub mod Register
