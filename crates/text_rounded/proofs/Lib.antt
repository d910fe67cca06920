pub mod Closest
pub mod Parts
pub mod Writing
pub mod Values
