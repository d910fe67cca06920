pub mod Stopped
pub mod Contract
