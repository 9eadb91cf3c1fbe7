pub mod Windows
mod Checks
pub mod Demand
