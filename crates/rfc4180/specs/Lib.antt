pub mod Cells
pub mod Grammar
pub mod Csv
pub mod Line
pub mod RowHere
pub mod Scan
