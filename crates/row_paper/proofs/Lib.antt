pub mod Literals
pub mod Columns
pub mod Accepted
pub mod Examples
