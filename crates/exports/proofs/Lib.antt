mod Replying
pub mod Numbered
