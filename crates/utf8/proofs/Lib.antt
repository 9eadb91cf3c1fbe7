pub mod Agree
pub mod Joined
mod Rows
mod Turns
mod Ascii
mod Examples
