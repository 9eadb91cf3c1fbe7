pub mod Back
pub mod Begun
pub mod Bytes
pub mod Sizes
pub mod Itself
pub mod Names
pub mod Numbers
pub mod Naming
mod Examples
