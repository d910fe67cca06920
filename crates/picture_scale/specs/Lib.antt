pub mod Scale
pub mod Bounds
pub mod Words
