pub mod Pairing
pub mod Fitting
