pub mod Kinds
pub mod Rules
pub mod Shapes
