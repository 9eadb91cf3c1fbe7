pub mod Inner
pub mod Sentence
