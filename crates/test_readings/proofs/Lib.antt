pub mod Readings
pub mod Constants
