pub mod Verdicts
pub mod Writing
pub mod Kept
pub mod Finite
pub mod Glue
