pub mod Halving
pub mod Finding
mod Examples
