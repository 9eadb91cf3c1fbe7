mod Turns
mod Numerals
mod Points
pub mod FirstBytes
pub mod Kinded
pub mod Cuts
pub mod Fields
pub mod Contents
mod Examples
