pub mod Feed
pub mod Inner
