pub mod Tests
pub mod Laws
pub mod Ranges
pub mod Copying
pub mod Joins
pub mod Stores
pub mod Parts
