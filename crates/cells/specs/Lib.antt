pub mod KindOf
pub mod Kinds
pub mod Raw
