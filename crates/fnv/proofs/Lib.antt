mod Wrapping
mod Rotation
mod Turns
