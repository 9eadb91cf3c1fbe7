pub mod Passing
pub mod Inferred
pub mod Steps
pub mod Examples
