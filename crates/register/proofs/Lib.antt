pub mod Names
pub mod Entries
mod Listed
pub mod Aparts
mod Filled
mod AnyCase
mod Sought
mod Again
pub mod Clear
