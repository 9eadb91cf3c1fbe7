pub mod Readings
pub mod Both
mod Singles
mod Equals
mod Alone
