pub mod Grammar
pub mod Utf8
