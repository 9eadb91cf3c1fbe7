pub mod Back
mod Pieces
mod Putting
mod Examples
