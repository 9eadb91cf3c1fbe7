pub mod Signatures
pub mod Fronts
pub mod Retold
pub mod Breaches
pub mod Written
pub mod Statements
pub mod Lists
pub mod Demand
mod Examples
