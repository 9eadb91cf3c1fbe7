pub mod Answers
pub mod Made
pub mod Sheets
pub mod Demand
mod Examples
