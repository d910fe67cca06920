pub mod Differences
pub mod Held
