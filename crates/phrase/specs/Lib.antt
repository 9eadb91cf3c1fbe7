pub mod Inner
pub mod Phrase
