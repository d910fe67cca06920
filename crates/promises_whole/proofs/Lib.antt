pub mod Larger
pub mod Turning
pub mod Monotone
pub mod Exports
