pub mod Doc
pub mod Inner
pub mod Limits
pub mod Sheet
