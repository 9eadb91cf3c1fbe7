pub mod Paper
pub mod Writable
