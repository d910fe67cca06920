pub mod Seams
pub mod Strict
