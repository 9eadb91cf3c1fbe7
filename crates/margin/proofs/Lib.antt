pub mod Margins
mod Ascends
pub mod Answers
pub mod Demand
mod Examples
