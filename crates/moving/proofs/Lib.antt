pub mod Trees
pub mod Reading
pub mod Facts
pub mod Breaches
pub mod Clauses
