pub mod Parts
pub mod Verdicts
pub mod Finite
pub mod Values
