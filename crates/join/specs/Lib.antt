pub mod Inner
pub mod Join
