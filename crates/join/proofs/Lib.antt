pub mod Documents
pub mod Stated
pub mod Joining
pub mod Refusals
mod Putting
