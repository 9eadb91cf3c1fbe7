pub mod Clearing
pub mod Found
pub mod Names
mod Turns
pub mod Entered
