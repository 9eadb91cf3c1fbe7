pub mod Shallow
pub mod Depths
pub mod Accepted
