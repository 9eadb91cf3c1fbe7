mod Steps
mod Merges
mod Patterns
mod Leaves
mod Expressions
mod Parts
pub mod Clauses
pub mod Lending
