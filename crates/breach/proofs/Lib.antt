pub mod Exact
pub mod Items
pub mod Ascending
pub mod Whole
pub mod Only
pub mod Shapes
pub mod Few
pub mod Demand
pub mod Sheets
mod Examples
