pub mod Laws
mod Turns
pub mod BytePairs
pub mod Folded
mod ReadTurns
pub mod Among
mod Examples
