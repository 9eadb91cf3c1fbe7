pub mod Agree
mod Bytes
mod Computed
mod Read
mod Scans
mod Ends
mod Follow
mod Recorded
pub mod Placed
mod Later
pub mod RowByRow
pub mod Spans
mod Examples
