pub mod Stopped
pub mod Exports
