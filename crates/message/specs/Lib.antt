pub mod Message
pub mod Said
