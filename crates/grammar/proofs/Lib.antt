pub mod Laws
pub mod Judged
pub mod Below
mod Standing
pub mod Places
pub mod Formed
pub mod Flat
pub mod Skipping
pub mod Numbered
mod Examples
