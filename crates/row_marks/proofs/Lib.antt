pub mod Tokens
pub mod Marked
pub mod Outcome
