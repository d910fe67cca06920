pub mod Matrix
pub mod Elimination
