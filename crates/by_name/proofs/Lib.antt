pub mod Declared
pub mod Lists
pub mod Taken
