pub mod Accepted
pub mod Sheets
pub mod Lists
pub mod Marked
pub mod Algebra
pub mod Demand
mod Examples
