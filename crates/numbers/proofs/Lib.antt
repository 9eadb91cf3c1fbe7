pub mod Laws
pub mod Texts
mod Hashes
mod Chains
mod Alike
mod Filling
