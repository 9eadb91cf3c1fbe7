pub mod Declarations
pub mod Effect
pub mod Inner
pub mod Scanned
