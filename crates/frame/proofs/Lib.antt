pub mod Laws
pub mod Names
pub mod FirstEdition
pub mod Numbered
mod Turns
mod Answers
mod Examples
pub mod Tokens
