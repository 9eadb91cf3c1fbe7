pub mod Steps
pub mod Lent
