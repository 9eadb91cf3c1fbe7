pub mod Examples
mod Facts
mod Shown
mod Answered
pub mod OfAll
