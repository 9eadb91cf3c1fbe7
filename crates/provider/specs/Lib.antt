pub mod Inner
pub mod Scanned
pub mod Schema
