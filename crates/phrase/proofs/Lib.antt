pub mod Laws
pub mod Named
pub mod Pieces
pub mod Steps
mod Taken
mod Rows
