pub mod Window
pub mod Judging
pub mod Merged
