mod Finding
mod Rowed
mod Answers
pub mod Accepted
pub mod Moved
pub mod InTurn
pub mod Numbered
mod Examples
