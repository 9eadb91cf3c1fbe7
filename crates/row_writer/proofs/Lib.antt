pub mod Left
pub mod Headers
pub mod Putting
pub mod Pairs
pub mod Within
pub mod Fitting
mod Contents
