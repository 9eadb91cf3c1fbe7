pub mod Searches
pub mod Standing
pub mod Scans
pub mod Least
pub mod Named
pub mod Openings
pub mod Effects
pub mod Refusals
